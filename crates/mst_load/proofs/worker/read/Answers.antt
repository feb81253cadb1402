use Rattle.mst_load.proofs.Names.{rules}
use Rattle.mst_load.proofs.Listening.{none_heard, heard_more}
use Rattle.mst_load.proofs.worker.read.Goals as goal

pub loop-index-init : goal.loop-index-init
loop-index-init g c = search (rules, none_heard)

pub loop-index-preserved : goal.loop-index-preserved
loop-index-preserved g c = search (rules, heard_more)
