use Rattle.mst_node.proofs.Names.{arith, rules, common_steps}
use Rattle.mst_node.proofs.sinks.take_counted.Goals as goal

pub overflow_cast-bytes : goal.overflow_cast-bytes
overflow_cast-bytes g c = search rules

pub as_slice-requires : goal.as_slice-requires
as_slice-requires g c = search rules

pub returns : goal.returns
returns g c = grind (arith, common_steps)
