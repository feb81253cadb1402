use Rattle.mst_node.proofs.SpelledIsRead.{one_node}
use Rattle.mst_node.proofs.MapTextsInGrammar.{in_grammar}
use Rattle.mst_node.proofs.laws.one_text.Goals as goal

pub returns-clause-one_node : goal.returns-clause-one_node
returns-clause-one_node c m n is js e = one_node m n is js e

pub returns-clause-in_grammar : goal.returns-clause-in_grammar
returns-clause-in_grammar c f t mst map bytes some few = in_grammar f t mst map bytes some few
