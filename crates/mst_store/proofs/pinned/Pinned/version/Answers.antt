use Rattle.mst_store.proofs.Names.{rules}
use Rattle.mst_store.proofs.pinned.Pinned.version.Goals as goal

pub returns : goal.returns
returns g c = search rules
