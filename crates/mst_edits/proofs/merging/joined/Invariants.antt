use Rattle.std.proofs.Common.{◌+◌, length}
use Rattle.mst_edits.proofs.JoinSteps.{Joining}
use Rattle.mst_edits.proofs.merging.joined.Given as goal

abbrev pub invariant-loop-left : goal.invariant-loop-left
invariant-loop-left g l = Joining l.fn.pairs l.fn.edits l.all.items l.rest l.left

abbrev pub decreases-loop-left : goal.decreases-loop-left
decreases-loop-left g l = length l.rest + length l.left
