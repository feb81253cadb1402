use Rattle.std.proofs.Common.{length, ◌-◌, ◌≡◌, ◌≤◌, take}
use Rattle.mst_devices.proofs.pending.write_all.Given as goal

-- the bytes before at were taken
abbrev pub invariant-loop-at : goal.invariant-loop-at
invariant-loop-at g l = record {
  taken : g.W.Sink.takes l.fn.sink (take l.at l.bytes) l.sink;
  failures : g.W.Sink.failures l.sink ≡ g.W.Sink.failures l.fn.sink;
  within : l.at ≤ length l.bytes;
}

abbrev pub decreases-loop-at : goal.decreases-loop-at
decreases-loop-at g l = length l.bytes - l.at
