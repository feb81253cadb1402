use Rattle.mst_words.proofs.Names.{arith, rules, elements}
use Rattle.mst_words.proofs.rows.PassSeatRows.read.Goals as goal

pub unreachable-requires : goal.unreachable-requires
unreachable-requires g c = grind (arith, elements)

pub unreachable-unreachable : goal.unreachable-unreachable
unreachable-unreachable g c = search rules

pub returns-clause-value : goal.returns-clause-value
returns-clause-value g c = grind (arith, elements)

pub returns-clause-same : goal.returns-clause-same
returns-clause-same g c = search rules

pub words-requires : goal.words-requires
words-requires g c = search rules

pub returns-clause-limits : goal.returns-clause-limits
returns-clause-limits g c = search rules
