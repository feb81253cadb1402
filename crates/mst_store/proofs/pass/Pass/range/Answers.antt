use Rattle.mst_store.proofs.Names.{rules}
use Rattle.mst_store.proofs.pass.Pass.range.Goals as goal

pub returns-in-Ok-clause-ok : goal.returns-in-Ok-clause-ok
returns-in-Ok-clause-ok g c = search rules
