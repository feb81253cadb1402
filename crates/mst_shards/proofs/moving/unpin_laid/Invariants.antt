use Rattle.mst_shards.proofs.Names.{◌≡◌, ◌+◌, ◌≤◌, ◌++◌, vec_len, vec_capacity, vec_items, deque_items, deque_len, deque_capacity}
use Rattle.mst_shards.proofs.moving.unpin_laid.Given as goal

-- the first pins are ended
abbrev pub invariant-loop-laid : goal.invariant-loop-laid
invariant-loop-laid g l =
    (vec_len l.passes + deque_len l.left ≤ vec_capacity l.passes)
    × (vec_len l.passes + deque_len l.left ≤ deque_capacity l.left)
    × (vec_items l.fn.pinned ≡ vec_items l.passes ++ deque_items l.left)
    × (l.place ≡ vec_len l.passes)

abbrev pub decreases-loop-laid : goal.decreases-loop-laid
decreases-loop-laid g l = deque_len l.left
