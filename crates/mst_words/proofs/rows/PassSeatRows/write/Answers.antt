use Rattle.mst_words.proofs.Names.{rules}
use Rattle.mst_words.proofs.rows.PassSeatRows.write.Goals as goal

pub words-words-requires : goal.words-words-requires
words-words-requires g c = search rules

pub store_words-requires : goal.store_words-requires
store_words-requires g c = search rules

pub returns-clause-writes : goal.returns-clause-writes
returns-clause-writes g c = c.store_words.ensures.writes c.args.value.now c.words-words.ensures.row

pub returns-clause-blank : goal.returns-clause-blank
returns-clause-blank g c = search rules

pub returns-clause-kept : goal.returns-clause-kept
returns-clause-kept g c = search rules
