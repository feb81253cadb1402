use Rattle.mst_arena.proofs.Names.{◌≡◌, ℕ, ◌<◌, ◌≤◌, ◌*◌, bit}
use Rattle.mst_arena.proofs.bits.next_bit.Given as goal

abbrev pub invariant-loop-i : goal.invariant-loop-i
invariant-loop-i l = (k : ℕ) → l.from ≤ k → k < 64 * l.i → bit l.words k ≡ 0
