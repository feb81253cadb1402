use Rattle.mst_node.proofs.Names.{rules}
use Rattle.mst_node.proofs.hashing.digest.Goals as goal

pub returns : goal.returns
returns c = search rules
