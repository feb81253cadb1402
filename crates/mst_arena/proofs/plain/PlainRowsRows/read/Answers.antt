use Rattle.mst_arena.proofs.Names.{arith, rules, elements}
use Rattle.mst_arena.proofs.plain.PlainRowsRows.read.Goals as goal

pub index-requires : goal.index-requires
index-requires g c = grind (arith, elements)

pub unreachable-requires : goal.unreachable-requires
unreachable-requires g c = grind (arith, elements)

pub same-self : goal.same-self
same-self g c = search rules

pub unreachable-unreachable : goal.unreachable-unreachable
unreachable-unreachable g c = search rules

pub same-self-2 : goal.same-self-2
same-self-2 g c = search rules

pub returns-clause-value : goal.returns-clause-value
returns-clause-value g c = grind (arith, elements)

pub returns-clause-same : goal.returns-clause-same
returns-clause-same g c = search rules
