use Rattle.mst_key.proofs.Names.{rules}
use Rattle.mst_key.proofs.key.KeyPartialOrd.partial_cmp.Goals as goal

pub returns : goal.returns
returns c = search rules
