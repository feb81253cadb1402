use Rattle.mst_c_blocks.proofs.Names.{rules}
use Rattle.mst_c_blocks.proofs.reading.next.Goals as goal

pub returns : goal.returns
returns c = search rules
