use Rattle.mst_parts.proofs.Names.{◌≡◌, ◌+◌, ◌≤◌, ◌++◌, vec_len, vec_capacity, vec_items, arc_value, AllByRecursion, deque_items, deque_len, edits_of, passes_of}
use Rattle.std.specs.VecDeque.{deque_capacity}
use Rattle.mst_parts.proofs.dealing.begin_all.Given as goal

-- the first parts are begun
abbrev pub invariant-loop-pass : goal.invariant-loop-pass
invariant-loop-pass g l =
    (vec_len l.parts + deque_len l.left ≤ vec_capacity l.parts)
    × (vec_len l.parts + deque_len l.left ≤ deque_capacity l.left)
    × (deque_len l.waiting ≡ deque_len l.left)
    × (deque_len l.sharing ≡ deque_len l.left)
    × (vec_items l.fn.passes ≡ passes_of (vec_items l.parts) ++ deque_items l.left)
    × (vec_items l.fn.dealt ≡ edits_of (vec_items l.parts) ++ deque_items l.waiting)
    × AllByRecursion (λ share. arc_value share ≡ l.map) (deque_items l.sharing)

abbrev pub decreases-loop-pass : goal.decreases-loop-pass
decreases-loop-pass g l = deque_len l.left
