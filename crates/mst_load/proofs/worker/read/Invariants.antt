use Rattle.mst_load.proofs.Names.{HasHeard}
use Rattle.mst_load.proofs.worker.read.Given as goal

abbrev pub invariant-loop-index : goal.invariant-loop-index
invariant-loop-index g l = HasHeard l.index l.fn.pass l.pass l.heard
