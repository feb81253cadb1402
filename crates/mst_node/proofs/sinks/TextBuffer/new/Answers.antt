use Rattle.mst_node.proofs.Names.{rules}
use Rattle.mst_node.proofs.sinks.TextBuffer.new.Goals as goal

pub returns : goal.returns
returns g c = search rules
