use Rattle.std.proofs.Common.{◌≡◌, ◌≤◌, ◌+◌, ◌++◌, vec_len, vec_capacity, vec_items}
use Rattle.std.specs.VecDeque.{deque_items, deque_len, deque_capacity}
use Rattle.mst_slot.proofs.places.Places.fill.Given as goal

-- the first values have their shares
abbrev pub invariant-loop-value : goal.invariant-loop-value
invariant-loop-value g l =
    (deque_len l.empty ≡ deque_len l.left)
    × (vec_len l.mine + deque_len l.left ≤ vec_capacity l.mine)
    × (vec_len l.yours + deque_len l.left ≤ vec_capacity l.yours)
    × (vec_len l.mine + deque_len l.left ≤ vec_capacity l.lents)
    × (vec_len l.mine + deque_len l.left ≤ deque_capacity l.left)
    × (vec_items l.fn.values ≡ vec_items l.mine ++ deque_items l.left)
    × (vec_items l.fn.values ≡ vec_items l.yours ++ deque_items l.left)

abbrev pub decreases-loop-value : goal.decreases-loop-value
decreases-loop-value g l = deque_len l.left
