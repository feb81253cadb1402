use Rattle.mst_arena.proofs.Names.{arith, elements}
use Rattle.mst_arena.proofs.plain.PlainRowsRows.way.Goals as goal

pub index-requires : goal.index-requires
index-requires g c = grind (arith, elements)

pub unreachable-requires : goal.unreachable-requires
unreachable-requires g c = grind (arith, elements)

pub returns-clause-way : goal.returns-clause-way
returns-clause-way g c = grind (arith, elements)
