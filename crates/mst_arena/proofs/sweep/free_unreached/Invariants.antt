use Rattle.mst_arena.proofs.Names.{◌≡◌, ◌≤◌, ◌-◌, true, take, length, vec_len, vec_capacity, AllReached}
use Rattle.mst_arena.proofs.SweepLemmas.{Sweeping}
use Rattle.mst_arena.proofs.sweep.free_unreached.Given as goal

abbrev pub invariant-loop-row : goal.invariant-loop-row
invariant-loop-row g l = record {
  sweeping : Sweeping l.live l.fn.lives l.lives l.free l.dead.items l.held.items;
  older : l.older ≡ true → AllReached (take (length l.live - 1) l.live) l.fn.lives
      l.initial.held.items → AllReached (take (length l.live - 1) l.live) l.lives l.held.items;
  room : length l.lives ≤ vec_capacity l.held;
  held_cap : vec_capacity l.held ≡ vec_capacity l.initial.held;
  dead_cap : vec_capacity l.dead ≡ vec_capacity l.initial.dead;
}

abbrev pub decreases-loop-row : goal.decreases-loop-row
decreases-loop-row g l = vec_len l.dead
