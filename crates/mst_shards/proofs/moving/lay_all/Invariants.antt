use Rattle.mst_shards.proofs.Names.{◌≡◌, ◌+◌, ◌≤◌, ◌++◌, vec_len, vec_capacity, vec_items, deque_items, deque_len}
use Rattle.mst_shards.proofs.moving.lay_all.Given as goal

-- the first passes are laid down
abbrev pub invariant-loop-pass : goal.invariant-loop-pass
invariant-loop-pass g l =
    (vec_len l.laid + deque_len l.left ≤ vec_capacity l.laid)
    × (vec_capacity l.laid ≡ vec_capacity l.fn.room)
    × (vec_items l.fn.passes ≡ vec_items l.laid ++ deque_items l.left)

abbrev pub decreases-loop-pass : goal.decreases-loop-pass
decreases-loop-pass g l = deque_len l.left
