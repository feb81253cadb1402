use Rattle.mst_snapshots.proofs.Names.{SeesOn}
use Rattle.mst_snapshots.proofs.Later.{HasTried}
use Rattle.mst_snapshots.proofs.reader.Reader.snapshot.Given as goal

-- each try so far has seen more, and was in vain
abbrev pub invariant-loop : goal.invariant-loop
invariant-loop g l =
    (goal.iterator-loop g).can_next l.iterator' × (goal.iterator-loop g).is_finite l.iterator'
    × SeesOn l.fn.self l.reader × HasTried l.fn.self l.reader
