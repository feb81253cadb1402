use Rattle.mst_node.proofs.Names.{arith, rules, common_steps}
use Rattle.mst_node.proofs.sinks.TextSink.heading.Goals as goal

pub as_slice-requires : goal.as_slice-requires
as_slice-requires g c = search rules

pub as_slice-requires-2 : goal.as_slice-requires-2
as_slice-requires-2 g c = search rules

pub returns : goal.returns
returns g c = grind (arith, common_steps)
