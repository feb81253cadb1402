use Rattle.mst_batching.proofs.Prepared.{prepared_wrote}
use Rattle.mst_store.proofs.laws.preparing_laws.Goals as goal

pub returns-clause-wrote : goal.returns-clause-wrote
returns-clause-wrote c edits p r first = prepared_wrote edits p r first

pub returns-clause-nothing : goal.returns-clause-nothing
returns-clause-nothing c edits p r first = first.looks
