use Rattle.mst_c_blocks.proofs.Names.{rules}
use Rattle.mst_c_blocks.proofs.making.apply_edits.Goals as goal

pub returns : goal.returns
returns c = search rules
