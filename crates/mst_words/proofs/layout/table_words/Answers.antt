use Rattle.mst_words.proofs.Names.{rules}
use Rattle.mst_words.proofs.layout.table_words.Goals as goal

pub overflow_mul-result : goal.overflow_mul-result
overflow_mul-result c = search rules

pub overflow_add-result : goal.overflow_add-result
overflow_add-result c = search rules

pub returns : goal.returns
returns c = search rules
