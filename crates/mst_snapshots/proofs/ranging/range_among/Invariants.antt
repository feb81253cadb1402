use Rattle.mst_snapshots.proofs.Names.{◌≡◌, ◌+◌, ◌-◌, vec_items, option_copied}
use Rattle.mst_shards.proofs.Steps.{RangedTo}
use Rattle.mst_snapshots.proofs.ranging.range_among.Given as goal

-- the pins are as they were, and the pairs are those of the shards before this one
abbrev pub invariant-loop-place : goal.invariant-loop-place
invariant-loop-place g l =
    (vec_items l.pins ≡ vec_items l.fn.pins)
    × RangedTo l.fn.limit l.splits (vec_items l.fn.pins) (option_copied l.fn.from)
    (option_copied l.fn.to) (vec_items l.found) l.place

abbrev pub decreases-loop-place : goal.decreases-loop-place
decreases-loop-place g l = l.last + 1 - l.place
