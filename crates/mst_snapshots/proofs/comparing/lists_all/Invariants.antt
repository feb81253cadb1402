use Rattle.mst_snapshots.proofs.Names.{◌≡◌, ◌+◌, ◌-◌, ◌≤◌, length, vec_items, after, AgreeTo}
use Rattle.mst_snapshots.proofs.comparing.lists_all.Given as goal

-- all is as it was, and the shards before this one agree
abbrev pub invariant-loop-place : goal.invariant-loop-place
invariant-loop-place g l =
    (vec_items l.pins ≡ vec_items l.fn.pins) × (l.directory ≡ l.fn.directory)
    × AgreeTo l.format l.splits (vec_items l.fn.pins) (after l.fn.directory.seen) l.place
    × (l.place ≤ length l.splits + 1)

abbrev pub decreases-loop-place : goal.decreases-loop-place
decreases-loop-place g l = length l.splits + 1 - l.place
