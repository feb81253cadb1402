use Rattle.std.proofs.Common.{length}
use Rattle.mst_arguments.proofs.options.+significant.Given as goal

abbrev pub decreases-significant : goal.decreases-significant
decreases-significant l = length l.digits.now
