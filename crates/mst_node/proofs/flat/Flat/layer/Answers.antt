use Rattle.mst_node.proofs.Names.{rules}
use Rattle.mst_node.proofs.flat.Flat.layer.Goals as goal

pub returns : goal.returns
returns c = search rules
