use Rattle.mst_store.proofs.Names.{rules}
use Rattle.mst_store.proofs.pass.Pass.version.Goals as goal

pub returns-clause-version : goal.returns-clause-version
returns-clause-version g c = search rules
