use Rattle.mst_c_blocks.proofs.Names.{None, PaddedBlocksHand}
use Rattle.std.specs.Prelude.{◌≡◌, ℕ, ◌<◌, get_or}
use Rattle.mst_c_blocks.proofs.opening.close_all.Given as goal

abbrev pub invariant-loop-padded : goal.invariant-loop-padded
invariant-loop-padded l = (k : ℕ) (h : PaddedBlocksHand) → k < l.padded-index
    → (get_or l.hands k h).hand.held ≡ None
