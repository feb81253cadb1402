use Rattle.mst_proof.proofs.Names.{none-some, node_in}
use Rattle.mst_proof.proofs.Decisions.{node_in-spelt, node_in-read, node_in-none}
use Rattle.mst_proof.proofs.laws.texts_by_grammar.Goals as goal

pub returns-clause-found : goal.returns-clause-found
returns-clause-found c format text n b =
    (λ e. node_in-spelt format text n e b, λ is. node_in-read format text (n, is.0, is.1, is.2))

pub returns-clause-nothing : goal.returns-clause-nothing
returns-clause-nothing c format text b = (
  λ none g. none-some (node_in format text) g.0 none (node_in-read format text g),
  λ out. node_in-none format text b out,
)
