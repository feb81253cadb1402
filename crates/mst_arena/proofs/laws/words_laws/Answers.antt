use Rattle.mst_arena.proofs.Spelling.{row_of_words, words_of_row}
use Rattle.mst_arena.proofs.laws.words_laws.Goals as goal

pub returns-clause-row : goal.returns-clause-row
returns-clause-row c row is has = row_of_words row is has

pub returns-clause-words : goal.returns-clause-words
returns-clause-words c words row e = words_of_row words row e
