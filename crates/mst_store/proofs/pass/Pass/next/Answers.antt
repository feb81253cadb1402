use Rattle.mst_store.proofs.Names.{rules}
use Rattle.mst_store.proofs.pass.Pass.next.Goals as goal

pub returns-clause-answers : goal.returns-clause-answers
returns-clause-answers g c = search rules
