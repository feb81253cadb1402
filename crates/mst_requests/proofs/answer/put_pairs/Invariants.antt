use Rattle.mst_requests.proofs.Names.{◌≡◌, take, Puts, pair_lines}
use Rattle.mst_requests.proofs.answer.put_pairs.Given as goal

-- the pairs so far were put
abbrev pub invariant-loop-key : goal.invariant-loop-key
invariant-loop-key g l = record {
  failures : g.W.Sink.failures l.sink ≡ g.W.Sink.failures l.fn.sink;
  puts : Puts g.W.Sink.takes l.fn.sink l.fn.pending (pair_lines (take l.key-index l.pairs)) l.sink
      l.pending;
}
