use Rattle.mst_key.proofs.Names.{rules}
use Rattle.mst_key.proofs.key.KeyOrd.cmp.Goals as goal

pub cmp-requires : goal.cmp-requires
cmp-requires c = search rules

pub returns : goal.returns
returns c = search rules
