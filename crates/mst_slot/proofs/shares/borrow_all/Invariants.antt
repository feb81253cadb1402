use Rattle.std.proofs.Common.{◌≡◌, ◌≤◌, ◌+◌, ◌++◌, vec_len, vec_capacity, vec_items}
use Rattle.std.specs.VecDeque.{deque_items, deque_len, deque_capacity}
use Rattle.mst_slot.proofs.shares.borrow_all.Given as goal

-- the first values are borrowed
abbrev pub invariant-loop-share : goal.invariant-loop-share
invariant-loop-share g l =
    (vec_len l.lents + deque_len l.shares ≤ vec_capacity l.lents)
    × (vec_len l.values + deque_len l.shares ≤ vec_capacity l.values)
    × (vec_capacity l.lents ≡ vec_capacity l.initial.lents)
    × (vec_capacity l.values ≡ vec_capacity l.initial.values)
    × (deque_capacity l.shares ≡ deque_capacity l.initial.shares)
    × (vec_items l.lents ≡ vec_items l.values)
    × (deque_items l.initial.shares ≡ vec_items l.values ++ deque_items l.shares)

abbrev pub decreases-loop-share : goal.decreases-loop-share
decreases-loop-share g l = deque_len l.shares
