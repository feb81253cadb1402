use Rattle.mst_sharded_script.proofs.Names.{◌≡◌, ◌+◌, length, Serves}
use Rattle.mst_lines.specs.Driving.{Reached}
use Rattle.mst_sharded_script.proofs.script.drive.Given as goal

-- the lines so far are answered
abbrev pub invariant-loop-script : goal.invariant-loop-script
invariant-loop-script g l = record {
  source_failures : g.S.Source.failures l.source ≡ g.S.Source.failures l.fn.source;
  sink_failures : g.W.Sink.failures l.sink ≡ g.W.Sink.failures l.fn.sink;
  reached : Reached g.S.Source.gives g.W.Sink.takes Serves l.fn.source l.fn.sink l.fn.script
      l.reader l.source l.sink l.pending l.script;
}

abbrev pub decreases-loop-script : goal.decreases-loop-script
decreases-loop-script g l = length l.reader + g.S.Source.left l.source
