use Rattle.mst_arena.proofs.Names.{rules}
use Rattle.mst_arena.proofs.words.entry_words.Goals as goal

pub overflow_mul-result : goal.overflow_mul-result
overflow_mul-result c = search rules

pub overflow_add-result : goal.overflow_add-result
overflow_add-result c = search rules

pub word_from-requires : goal.word_from-requires
word_from-requires c = search rules

pub word_from-requires-2 : goal.word_from-requires-2
word_from-requires-2 c = search rules

pub word_from-requires-3 : goal.word_from-requires-3
word_from-requires-3 c = search rules

pub word_from-requires-4 : goal.word_from-requires-4
word_from-requires-4 c = search rules

pub word_from-requires-5 : goal.word_from-requires-5
word_from-requires-5 c = search rules

pub word_from-requires-6 : goal.word_from-requires-6
word_from-requires-6 c = search rules

pub word_from-requires-7 : goal.word_from-requires-7
word_from-requires-7 c = search rules

pub word_from-requires-8 : goal.word_from-requires-8
word_from-requires-8 c = search rules

pub word_from-requires-9 : goal.word_from-requires-9
word_from-requires-9 c = search rules

pub word_from-requires-10 : goal.word_from-requires-10
word_from-requires-10 c = search rules

pub word_from-requires-11 : goal.word_from-requires-11
word_from-requires-11 c = search rules

pub word_from-requires-12 : goal.word_from-requires-12
word_from-requires-12 c = search rules

pub returns-clause-words : goal.returns-clause-words
returns-clause-words c = search rules

pub returns-clause-bytes : goal.returns-clause-bytes
returns-clause-bytes c = search rules
