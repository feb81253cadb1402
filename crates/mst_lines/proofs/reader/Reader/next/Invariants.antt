use Rattle.std.proofs.Common.{◌≡◌, ◌⊎◌, ◌≤◌, ◌+◌, [], length}
use Rattle.mst_lines.specs.Reading.{Goes}
use Rattle.mst_lines.proofs.reader.Reader.next.Given as goal

-- no newline came so far
abbrev pub invariant-loop-pending : goal.invariant-loop-pending
invariant-loop-pending g l = record {
  source_failures : g.S.Source.failures l.source ≡ g.S.Source.failures l.fn.source;
  sink_failures : g.W.Sink.failures l.sink ≡ g.W.Sink.failures l.fn.sink;
  fewer : length l.self + g.S.Source.left l.source ≤ length l.fn.self + g.S.Source.left l.fn.source;
  order : (l.source ≡ l.fn.source)
      ⊎ (g.W.Sink.takes l.fn.sink l.fn.pending l.sink × (l.pending ≡ []));
  read : Goes g.S.Source.gives g.W.Sink.takes l.fn.self l.fn.source l.fn.sink l.fn.pending l.line
      l.self l.source l.sink l.pending;
}

abbrev pub decreases-loop-pending : goal.decreases-loop-pending
decreases-loop-pending g l = g.S.Source.left l.source
