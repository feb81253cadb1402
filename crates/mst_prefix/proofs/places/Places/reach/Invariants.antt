use Rattle.std.proofs.Common.{◌≡◌, ◌≤◌, vec_capacity, vec_len}
use Rattle.mst_prefix.proofs.places.Places.reach.Given as goal

abbrev pub invariant-loop : goal.invariant-loop
invariant-loop g l = record {
  len : vec_len l.self.numbers ≡ l.counter;
  room : vec_capacity l.self.numbers ≡ vec_capacity l.initial.self.numbers;
  end : l.end ≤ vec_capacity l.initial.self.numbers;
  items : l.self.items ≡ l.initial.self.items;
}
