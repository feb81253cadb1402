use Rattle.std.proofs.Common.{◌≡◌, ◌+◌, length}
use Rattle.mst_lines.specs.Driving.{Reached}
use Rattle.mst_command.specs.Recalling.{Recalls}
use Rattle.mst_command.proofs.events.drive.Given as goal

-- the lines so far are answered
abbrev pub invariant-loop-sink : goal.invariant-loop-sink
invariant-loop-sink g l = record {
  source_failures : g.S.Source.failures l.source ≡ g.S.Source.failures l.fn.source;
  sink_failures : g.W.Sink.failures l.sink ≡ g.W.Sink.failures l.fn.sink;
  reached : Reached g.S.Source.gives g.W.Sink.takes Recalls l.fn.source l.fn.sink l.fn.replay
      l.reader l.source l.sink l.pending l.replay;
}

abbrev pub decreases-loop-sink : goal.decreases-loop-sink
decreases-loop-sink g l = length l.reader + g.S.Source.left l.source
