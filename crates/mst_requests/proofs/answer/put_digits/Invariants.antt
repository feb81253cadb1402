use Rattle.mst_requests.proofs.Names.{◌≡◌, ◌≤◌, ◌-◌, length, take, encode_lower, Puts}
use Rattle.mst_requests.proofs.answer.put_digits.Given as goal

-- the digits of the bytes before at were put
abbrev pub invariant-loop-at : goal.invariant-loop-at
invariant-loop-at g l = record {
  within : l.at ≤ length l.bytes;
  failures : g.W.Sink.failures l.sink ≡ g.W.Sink.failures l.fn.sink;
  puts : Puts g.W.Sink.takes l.fn.sink l.fn.pending (encode_lower (take l.at l.bytes)) l.sink
      l.pending;
}

abbrev pub decreases-loop-at : goal.decreases-loop-at
decreases-loop-at g l = length l.bytes - l.at
