use Rattle.mst_node.proofs.Names.{arith, rules, elements}
use Rattle.mst_node.proofs.flat.Flat.key.Goals as goal

pub entry-requires : goal.entry-requires
entry-requires c = search rules

pub unreachable-requires : goal.unreachable-requires
unreachable-requires c = search rules

pub unreachable-unreachable : goal.unreachable-unreachable
unreachable-unreachable c = search rules

pub returns : goal.returns
returns c = grind (arith, elements)
