use Rattle.mst_snapshots.proofs.Names.{◌≡◌, sum_by, take, vec_items}
use Rattle.mst_snapshots.proofs.Lengths.{pairs_in}
use Rattle.mst_snapshots.proofs.counting.len_among.Given as goal

-- the pins are as they were, and the shards before this one are counted
abbrev pub invariant-loop-place : goal.invariant-loop-place
invariant-loop-place g l =
    (vec_items l.pins ≡ vec_items l.fn.pins)
    × (l.len ≡ sum_by pairs_in (take l.place (vec_items l.fn.pins)))
