use Rattle.mst_store.proofs.Names.{rules}
use Rattle.mst_store.proofs.pinned.Pinned.number.Goals as goal

pub returns : goal.returns
returns g c = search rules
