use Rattle.mst_c_blocks.proofs.Names.{None, PaddedBlocksHand, WaitsIn}
use Rattle.std.specs.Prelude.{◌≡◌, ℕ, ◌<◌, ◌≤◌, true, length, get_or}
use Rattle.mst_c_blocks.proofs.parts.wait_all.Given as goal

-- the first hands wait, and those behind them are empty
abbrev pub invariant-loop-hand : goal.invariant-loop-hand
invariant-loop-hand l =
    (l.all ≡ true → (k : ℕ) (h : PaddedBlocksHand) → k < l.hand-index
    → WaitsIn (get_or l.hands k h).hand.held)
    × ((k : ℕ) (h : PaddedBlocksHand) → l.hand-index ≤ k → k < length l.hands
    → (get_or l.hands k h).hand.held ≡ None)
