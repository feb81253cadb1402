use Rattle.mst_words.proofs.Names.{rules}
use Rattle.mst_words.proofs.rows.PassSeatRows.value.Goals as goal

pub word-lengths-requires-clause-readable : goal.word-lengths-requires-clause-readable
word-lengths-requires-clause-readable g c = search rules

pub word-lengths-requires-clause-there : goal.word-lengths-requires-clause-there
word-lengths-requires-clause-there g c = search rules

pub unreachable-requires : goal.unreachable-requires
unreachable-requires g c = search rules

pub unreachable-unreachable : goal.unreachable-unreachable
unreachable-unreachable g c = search rules

pub returns-clause-value : goal.returns-clause-value
returns-clause-value g c = search rules

pub returns-clause-same : goal.returns-clause-same
returns-clause-same g c = search rules
