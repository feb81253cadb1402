use Rattle.std.proofs.Common.{length}
use Rattle.mst_arguments.proofs.options.+has_switch.Given as goal

abbrev pub decreases-has_switch : goal.decreases-has_switch
decreases-has_switch l = length l.words.now
