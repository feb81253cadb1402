use Rattle.mst_words.proofs.Names.{rules}
use Rattle.mst_words.proofs.pins.bit_of.Goals as goal

pub overflow_sub-result : goal.overflow_sub-result
overflow_sub-result c = search rules

pub overflow_cast-result : goal.overflow_cast-result
overflow_cast-result c = search rules

pub overflow_shl-result : goal.overflow_shl-result
overflow_shl-result c = search rules

pub returns : goal.returns
returns c = search rules
