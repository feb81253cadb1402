use Rattle.mst_blocks.proofs.Names.{◌≡◌, ◌++◌, map, take, drop, revealed_stage}
use Rattle.mst_blocks.proofs.publishing.reveal_all.Given as goal

abbrev pub invariant-loop-stage : goal.invariant-loop-stage
invariant-loop-stage g l =
    l.stages ≡ map revealed_stage (take l.stage-index l.fn.stages)
    ++ drop l.stage-index l.fn.stages
