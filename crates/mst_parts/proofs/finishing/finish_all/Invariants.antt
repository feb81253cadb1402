use Rattle.mst_parts.proofs.Names.{◌≡◌, ◌+◌, ◌≤◌, List, ◌++◌, length, map, vec_len, vec_capacity, vec_items, IsNone, deque_items, deque_len, Edit, Known, AllStep, MakesNothing, edits_of, passes_of, AllStaged, canceled_stage, Stops}
use Rattle.mst_parts.proofs.finishing.finish_all.Given as goal

-- the first parts are lifted
abbrev pub invariant-loop-part : goal.invariant-loop-part
invariant-loop-part g l =
    (vec_len l.stages + deque_len l.left ≤ vec_capacity l.stages)
    × ((done : List (List Edit)) × (front : List Known)
    × (edits_of (vec_items l.fn.parts) ≡ done ++ edits_of (deque_items l.left))
    × (passes_of (vec_items l.fn.parts) ≡ front ++ passes_of (deque_items l.left))
    × (IsNone l.stopped → AllStaged done front (vec_items l.stages))
    × AllStep MakesNothing front (map canceled_stage (vec_items l.stages))
    × Stops l.stopped done front (map canceled_stage (vec_items l.stages))
    × (length done ≡ length front))

abbrev pub decreases-loop-part : goal.decreases-loop-part
decreases-loop-part g l = deque_len l.left
