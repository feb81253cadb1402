use Rattle.mst_node.proofs.GrammarIsRead.{read_in_grammar, grammar_read}
use Rattle.mst_node.proofs.laws.text_by_grammar.Goals as goal

pub returns-clause-found : goal.returns-clause-found
returns-clause-found c format text n b = (
  λ is. read_in_grammar format text n is.0 b is.1,
  λ is. (grammar_read format text (n, is.0, is.1, is.2), is.1.keys),
)

pub returns-clause-nothing : goal.returns-clause-nothing
returns-clause-nothing c format text b = (
  λ none g. none g.0 (grammar_read format text g) g.2.keys,
  λ out n e fit. let is = read_in_grammar format text n e b fit in out (n, is.0, is.1, is.2),
)
