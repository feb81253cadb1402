use Rattle.mst_store.proofs.Names.{HasTried}
use Rattle.mst_store.proofs.pass.Pass.apply.Given as goal

-- so far the turn was tried in vain
abbrev pub invariant-loop : goal.invariant-loop
invariant-loop g l =
    (goal.iterator-loop g).can_next l.iterator' × (goal.iterator-loop g).is_finite l.iterator'
    × HasTried l.fn.self l.self
