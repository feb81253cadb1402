use Rattle.mst_node.proofs.Names.{arith, rules, common_steps}
use Rattle.mst_node.proofs.making.greatest_of.Goals as goal

pub loop-layer-init : goal.loop-layer-init
loop-layer-init c = search rules

pub loop-layer-preserved : goal.loop-layer-preserved
loop-layer-preserved c = grind (arith, common_steps)

pub returns : goal.returns
returns c = grind (arith, common_steps)
