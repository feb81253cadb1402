use Rattle.std.proofs.Common.{arith}
use Rattle.std.proofs.lemmas.Grind.{common_steps}
use Rattle.mst_slot.proofs.shares.give_all_back.Goals as goal

pub give_back-requires : goal.give_back-requires
give_back-requires g c = grind (arith, common_steps)

pub loop-lent-preserved : goal.loop-lent-preserved
loop-lent-preserved g c = grind (arith, common_steps)
