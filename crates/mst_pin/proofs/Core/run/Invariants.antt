use Rattle.mst_pin.proofs.Names.{◌≡◌, ◌≤◌, length, take, Runs, state}
use Rattle.std.proofs.Common.{vec_len, vec_capacity}
use Rattle.mst_pin.proofs.Core.run.Given as goal

abbrev pub invariant-loop-event : goal.invariant-loop-event
invariant-loop-event g l = record {
  ran : Runs (state l.initial.self) (take l.event-index l.events) l.answers.items (state l.self);
  taken : vec_len l.answers ≡ l.event-index;
  room : length l.events ≤ vec_capacity l.answers;
}
