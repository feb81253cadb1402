use Rattle.mst_c_blocks.proofs.Names.{rules}
use Rattle.mst_c_blocks.proofs.telling.release.Goals as goal

pub returns : goal.returns
returns c = search rules
