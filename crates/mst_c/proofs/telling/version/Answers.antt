use Rattle.mst_c.proofs.Names.{rules}
use Rattle.mst_c.proofs.telling.version.Goals as goal

pub returns : goal.returns
returns c = search rules
