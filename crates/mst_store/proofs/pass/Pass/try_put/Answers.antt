use Rattle.mst_store.proofs.Names.{rules}
use Rattle.mst_store.proofs.pass.Pass.try_put.Goals as goal

pub returns-clause-ok : goal.returns-clause-ok
returns-clause-ok g c = search rules

pub returns-clause-err : goal.returns-clause-err
returns-clause-err g c = search rules
