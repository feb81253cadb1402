use Rattle.mst_snapshots.proofs.Names.{◌≡◌, ◌+◌, ◌-◌, ◌<◌, length, slice_get, vec_items, union_from}
use Rattle.mst_snapshots.proofs.ranging.first_behind.Given as goal

-- the pins are as they were, and the shards before this one have no pair
abbrev pub invariant-loop-next : goal.invariant-loop-next
invariant-loop-next g l =
    (vec_items l.pins ≡ vec_items l.fn.pins)
    × (slice_get (union_from (l.fn.place + 1) l.splits (vec_items l.fn.pins)) 0
    ≡ slice_get (union_from l.next l.splits (vec_items l.fn.pins)) 0) × (0 < l.next)

abbrev pub decreases-loop-next : goal.decreases-loop-next
decreases-loop-next g l = length l.splits + 1 - l.next
