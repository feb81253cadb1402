use Rattle.mst_node.proofs.Names.{rules}
use Rattle.mst_node.proofs.sinks.Sha256TextSink.take.Goals as goal

pub returns : goal.returns
returns c = search rules
