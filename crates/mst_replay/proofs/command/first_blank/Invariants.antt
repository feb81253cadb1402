use Rattle.mst_replay.proofs.Names.{◌≡◌, ℕ, ◌<◌, get_or}
use Rattle.mst_replay.proofs.command.first_blank.Given as goal

abbrev pub invariant-loop-i : goal.invariant-loop-i
invariant-loop-i l = (k : ℕ) → k < l.i → get_or l.bytes k 0 ≡ 32 → ⊥
