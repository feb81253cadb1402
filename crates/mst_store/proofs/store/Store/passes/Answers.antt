use Rattle.mst_store.proofs.Names.{rules}
use Rattle.mst_store.proofs.store.Store.passes.Goals as goal

pub returns : goal.returns
returns g c = search rules
