use Rattle.mst_words.proofs.Names.{rules}
use Rattle.mst_words.proofs.layout.record_word.Goals as goal

pub overflow_mul-result : goal.overflow_mul-result
overflow_mul-result c = search rules

pub overflow_add-result : goal.overflow_add-result
overflow_add-result c = search rules

pub overflow_add-result-2 : goal.overflow_add-result-2
overflow_add-result-2 c = search rules

pub returns : goal.returns
returns c = search rules
