use Rattle.mst_shards.proofs.Names.{◌≡◌, ◌+◌, ◌≤◌, ◌++◌, vec_len, vec_capacity, vec_items, deque_items, deque_len, deque_capacity}
use Rattle.mst_shards.proofs.moving.lift_all.Given as goal

-- the first passes are lifted
abbrev pub invariant-loop-pass : goal.invariant-loop-pass
invariant-loop-pass g l =
    (vec_len l.passes + deque_len l.left ≤ vec_capacity l.passes)
    × (vec_len l.passes + deque_len l.left ≤ deque_capacity l.left)
    × (vec_items l.fn.laid ≡ vec_items l.passes ++ deque_items l.left)
    × (l.place ≡ vec_len l.passes)

abbrev pub decreases-loop-pass : goal.decreases-loop-pass
decreases-loop-pass g l = deque_len l.left
