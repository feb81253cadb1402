use Rattle.mst_node.proofs.Names.{rules}
use Rattle.mst_node.proofs.key_place.Span.has.Goals as goal

pub returns-then-above : goal.returns-then-above
returns-then-above c = search rules

pub returns-else-above : goal.returns-else-above
returns-else-above c = search rules
