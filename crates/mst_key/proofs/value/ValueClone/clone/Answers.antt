use Rattle.mst_key.proofs.Names.{rules}
use Rattle.mst_key.proofs.value.ValueClone.clone.Goals as goal

pub returns : goal.returns
returns c = search rules
