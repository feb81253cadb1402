use Rattle.mst_c.proofs.Names.{None, PaddedHand}
use Rattle.std.specs.Prelude.{◌≡◌, ℕ, ◌<◌, get_or}
use Rattle.mst_c.proofs.opening.close_all.Given as goal

abbrev pub invariant-loop-padded : goal.invariant-loop-padded
invariant-loop-padded l = (k : ℕ) (h : PaddedHand) → k < l.padded-index
    → (get_or l.hands k h).hand.held ≡ None
