use Rattle.mst_words.proofs.Names.{rules}
use Rattle.mst_words.proofs.rows.PassSeatRows.digest.Goals as goal

pub returns-clause-value : goal.returns-clause-value
returns-clause-value g c = search rules

pub returns-clause-same : goal.returns-clause-same
returns-clause-same g c = search rules

pub words-requires : goal.words-requires
words-requires g c = search rules
