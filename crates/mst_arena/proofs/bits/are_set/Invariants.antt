use Rattle.mst_arena.proofs.Names.{◌≡◌, ◌≤◌, ◌<◌, ◌-◌, ℕ, bit}
use Rattle.mst_arena.proofs.bits.are_set.Given as goal

abbrev pub invariant-loop-next : goal.invariant-loop-next
invariant-loop-next l = (l.from ≤ l.next)
    × ((i : ℕ) → l.from ≤ i → i < l.next → bit l.words i ≡ 1)

abbrev pub decreases-loop-next : goal.decreases-loop-next
decreases-loop-next l = l.end - l.next
