use Rattle.mst_c_blocks.proofs.Names.{Some, vec_len, into_iter_items, into_iter_len, Origin, PaddedBlocksHand, WaitsIn}
use Rattle.std.specs.Prelude.{◌≡◌, ℕ, ◌+◌, ◌<◌, ◌≤◌, length, get_or}
use Rattle.mst_c_blocks.specs.declared.role_box.Role.TheVariants.{Part}
use Rattle.mst_c_blocks.proofs.parts.hand_parts.Given as goal

-- the parts that are left are the last of those given, the first hands have the others, and the
-- hands behind them wait
abbrev pub invariant-loop-part : goal.invariant-loop-part
invariant-loop-part l =
    (l.at + into_iter_len l.part-iterator ≡ vec_len l.fn.parts)
    × (length l.hands ≡ vec_len l.fn.parts)
    × ((k : ℕ) (o : Origin) → k < into_iter_len l.part-iterator
    → get_or (into_iter_items l.part-iterator) k o ≡ get_or l.fn.parts.items (l.at + k) o)
    × ((k : ℕ) (o : Origin) (h : PaddedBlocksHand) → k < l.at
    → (get_or l.hands k h).hand.held ≡ Some (Part (Some (get_or l.fn.parts.items k o))))
    × ((k : ℕ) (h : PaddedBlocksHand) → l.at ≤ k → k < length l.hands
    → WaitsIn (get_or l.hands k h).hand.held)
