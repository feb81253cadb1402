use Rattle.mst_script.proofs.Names.{◌≡◌, ◌+◌, length, AreAllOf, everyone, Serves}
use Rattle.mst_lines.specs.Driving.{Reached}
use Rattle.mst_script.proofs.script.drive.Given as goal

-- the lines so far are answered
abbrev pub invariant-loop-sink : goal.invariant-loop-sink
invariant-loop-sink g l = record {
  source_failures : g.S.Source.failures l.source ≡ g.S.Source.failures l.fn.source;
  sink_failures : g.W.Sink.failures l.sink ≡ g.W.Sink.failures l.fn.sink;
  whole : AreAllOf l.store (everyone l.passes);
  reached : Reached g.S.Source.gives g.W.Sink.takes (Serves l.store) l.fn.source l.fn.sink
      l.fn.passes l.reader l.source l.sink l.pending l.passes;
}

abbrev pub decreases-loop-sink : goal.decreases-loop-sink
decreases-loop-sink g l = length l.reader + g.S.Source.left l.source
