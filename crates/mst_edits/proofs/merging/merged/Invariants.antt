use Rattle.std.proofs.Common.{◌+◌, length}
use Rattle.mst_edits.proofs.MergeSteps.{Merging}
use Rattle.mst_edits.proofs.merging.merged.Given as goal

abbrev pub invariant-loop-right : goal.invariant-loop-right
invariant-loop-right g l = Merging l.fn.first l.fn.second l.all.items l.left l.right

abbrev pub decreases-loop-right : goal.decreases-loop-right
decreases-loop-right g l = length l.left + length l.right
