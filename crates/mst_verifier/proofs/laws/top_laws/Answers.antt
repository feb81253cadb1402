use Rattle.mst_verifier.proofs.TopLaws.{told_length, not_none}
use Rattle.mst_verifier.proofs.laws.top_laws.Goals as goal

pub returns-clause-length : goal.returns-clause-length
returns-clause-length c = told_length

pub returns-clause-none : goal.returns-clause-none
returns-clause-none c = not_none
