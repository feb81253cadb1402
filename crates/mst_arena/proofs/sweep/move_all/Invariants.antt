use Rattle.mst_arena.proofs.Names.{◌≡◌, ◌+◌, ◌≤◌, ℕ, vec_len, vec_capacity, times}
use Rattle.mst_arena.proofs.sweep.move_all.Given as goal

abbrev pub invariant-loop-row : goal.invariant-loop-row
invariant-loop-row g l = record {
  times : (r : ℕ) → times r l.from.items + times r l.to.items ≡ times r l.initial.from.items + times
      r l.initial.to.items;
  room : vec_len l.from + vec_len l.to ≤ vec_capacity l.to;
  from_room : vec_capacity l.from ≡ vec_capacity l.initial.from;
  to_room : vec_capacity l.to ≡ vec_capacity l.initial.to;
}

abbrev pub decreases-loop-row : goal.decreases-loop-row
decreases-loop-row g l = vec_len l.from
