use Rattle.mst_arena.proofs.Names.{arith, rules, elements}
use Rattle.mst_arena.proofs.plain.PlainRowsRows.write.Goals as goal

pub index_mut-requires : goal.index_mut-requires
index_mut-requires g c = search rules

pub returns-clause-writes : goal.returns-clause-writes
returns-clause-writes g c = grind (arith, elements)

pub returns-clause-blank : goal.returns-clause-blank
returns-clause-blank g c = search rules
