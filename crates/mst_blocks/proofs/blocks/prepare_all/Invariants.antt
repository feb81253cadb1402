use Rattle.mst_blocks.proofs.Names.{◌≡◌, ◌+◌, ◌≤◌, List, ◌++◌, length, map, vec_len, vec_capacity, vec_items, IsNone, deque_items, deque_len, Edit, Known, AllStep, MakesNothing, AllStaged, canceled_stage}
use Rattle.std.specs.VecDeque.{deque_capacity}
use Rattle.mst_blocks.proofs.Committing.{Stops}
use Rattle.mst_blocks.proofs.blocks.prepare_all.Given as goal

abbrev pub invariant-loop-pass : goal.invariant-loop-pass
invariant-loop-pass g l =
    (vec_len l.stages + deque_len l.left ≤ vec_capacity l.stages)
    × (vec_len l.stages + deque_len l.left ≤ deque_capacity l.left)
    × (deque_len l.waiting ≡ deque_len l.left)
    × ((done : List (List Edit)) × (front : List Known)
    × (vec_items l.fn.parts ≡ done ++ deque_items l.waiting)
    × (vec_items l.fn.passes ≡ front ++ deque_items l.left)
    × (IsNone l.stopped → AllStaged done front (vec_items l.stages))
    × AllStep MakesNothing front (map canceled_stage (vec_items l.stages))
    × Stops l.stopped done front (map canceled_stage (vec_items l.stages))
    × (length done ≡ length front))

abbrev pub decreases-loop-pass : goal.decreases-loop-pass
decreases-loop-pass g l = deque_len l.left
