use Rattle.mst_parts.proofs.Names.{◌≡◌, ◌+◌, ◌≤◌, List, ◌++◌, vec_len, vec_capacity, vec_items, deque_items, deque_len, Known, AllStep, MakesNothing, passes_of}
use Rattle.mst_parts.proofs.finishing.cancel_parts.Given as goal

-- the first parts are taken back
abbrev pub invariant-loop-part : goal.invariant-loop-part
invariant-loop-part g l =
    (vec_len l.passes + deque_len l.left ≤ vec_capacity l.passes)
    × ((front : List Known)
    × (passes_of (vec_items l.fn.parts) ≡ front ++ passes_of (deque_items l.left))
    × AllStep MakesNothing front (vec_items l.passes))

abbrev pub decreases-loop-part : goal.decreases-loop-part
decreases-loop-part g l = deque_len l.left
