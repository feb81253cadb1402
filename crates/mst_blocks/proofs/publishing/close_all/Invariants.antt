use Rattle.mst_blocks.proofs.Names.{◌≡◌, ◌+◌, ◌≤◌, ◌++◌, map, vec_len, vec_capacity, vec_items, AllByRecursion, deque_items, deque_len, IsShown, canceled_stage}
use Rattle.mst_blocks.proofs.publishing.close_all.Given as goal

abbrev pub invariant-loop-stage : goal.invariant-loop-stage
invariant-loop-stage g l =
    (vec_len l.passes + deque_len l.left ≤ vec_capacity l.passes)
    × (map canceled_stage (vec_items l.fn.stages) ≡ vec_items l.passes ++ map canceled_stage
    (deque_items l.left))
    × AllByRecursion IsShown (deque_items l.left)

abbrev pub decreases-loop-stage : goal.decreases-loop-stage
decreases-loop-stage g l = deque_len l.left
