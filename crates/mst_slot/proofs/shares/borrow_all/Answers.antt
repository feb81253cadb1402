use Rattle.std.proofs.Common.{arith}
use Rattle.std.proofs.lemmas.Grind.{common_steps}
use Rattle.mst_slot.proofs.shares.borrow_all.Goals as goal

pub loop-share-preserved : goal.loop-share-preserved
loop-share-preserved g c = grind (arith, common_steps)
