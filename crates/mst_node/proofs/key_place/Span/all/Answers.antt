use Rattle.mst_node.proofs.Names.{rules}
use Rattle.mst_node.proofs.key_place.Span.all.Goals as goal

pub returns : goal.returns
returns c = search rules
