use Rattle.std.proofs.Common.{length}
use Rattle.mst_arguments.proofs.options.+operand.Given as goal

abbrev pub decreases-operand : goal.decreases-operand
decreases-operand l = length l.words.now
