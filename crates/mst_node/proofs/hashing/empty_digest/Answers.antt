use Rattle.mst_node.proofs.Names.{rules}
use Rattle.mst_node.proofs.Empty.{empty}
use Rattle.mst_node.proofs.hashing.empty_digest.Goals as goal

pub returns : goal.returns
returns c = search (rules, empty)
