use Rattle.std.proofs.Common.{◌≡◌, ◌≤◌, ◌+◌, ◌++◌, vec_len, vec_capacity, vec_items}
use Rattle.std.specs.VecDeque.{deque_items, deque_len, deque_capacity}
use Rattle.mst_slot.proofs.shares.give_all_back.Given as goal

-- the last values are given back
abbrev pub invariant-loop-lent : goal.invariant-loop-lent
invariant-loop-lent g l =
    (deque_len l.shares + vec_len l.values ≤ deque_capacity l.shares)
    × (vec_capacity l.lents ≡ vec_capacity l.initial.lents)
    × (vec_capacity l.values ≡ vec_capacity l.initial.values)
    × (vec_items l.lents ≡ vec_items l.values)
    × (vec_items l.values ++ deque_items l.shares
    ≡ vec_items l.initial.values ++ deque_items l.initial.shares)

abbrev pub decreases-loop-lent : goal.decreases-loop-lent
decreases-loop-lent g l = vec_len l.lents
