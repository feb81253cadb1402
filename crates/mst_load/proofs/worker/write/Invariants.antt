use Rattle.mst_load.proofs.Names.{HasWritten}
use Rattle.std.specs.Prelude.{◌≡◌}
use Rattle.mst_load.proofs.worker.write.Given as goal

abbrev pub invariant-loop-index : goal.invariant-loop-index
invariant-loop-index g l = (l.number ≡ l.fn.pass.number) × HasWritten l.index l.fn.pass l.pass
