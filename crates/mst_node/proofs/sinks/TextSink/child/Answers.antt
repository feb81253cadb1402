use Rattle.mst_node.proofs.Names.{arith, rules, common_steps}
use Rattle.mst_node.proofs.sinks.TextSink.child.Goals as goal

pub as_slice-requires : goal.as_slice-requires
as_slice-requires g c = search rules

pub as_slice-requires-in-Some : goal.as_slice-requires-in-Some
as_slice-requires-in-Some g c = search rules

pub as_slice-requires-in-Some-2 : goal.as_slice-requires-in-Some-2
as_slice-requires-in-Some-2 g c = search rules

pub returns-in-None : goal.returns-in-None
returns-in-None g c = search rules

pub returns-in-Some : goal.returns-in-Some
returns-in-Some g c = grind (arith, common_steps)
