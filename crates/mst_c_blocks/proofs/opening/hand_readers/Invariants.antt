use Rattle.mst_c_blocks.proofs.Names.{Some, None, vec_len, arc_value, into_iter_items, into_iter_len, Dealt, PaddedBlocksHand, Reader, reader_of}
use Rattle.std.specs.Prelude.{◌≡◌, ℕ, ◌+◌, ◌<◌, true, length, get_or}
use Rattle.mst_c_blocks.proofs.opening.hand_readers.Given as goal

-- the lots that are left are the last of those given, the hands behind the first one have the
-- readers of the others, and those after are empty
abbrev pub invariant-loop-lot : goal.invariant-loop-lot
invariant-loop-lot l =
    (l.at + into_iter_len l.lot-iterator ≡ vec_len l.fn.lots)
    × ((k : ℕ) (d : Dealt) → k < into_iter_len l.lot-iterator
    → get_or (into_iter_items l.lot-iterator) k d ≡ get_or l.fn.lots.items (l.at + k) d)
    × ((h : PaddedBlocksHand) → (get_or l.hands 0 h).hand.held ≡ (get_or l.fn.hands 0 h).hand.held)
    × (l.all ≡ true → (k : ℕ) (d : Dealt) (h : PaddedBlocksHand) → k < l.at
    → (get_or l.hands (k + 1) h).hand.held
    ≡ Some (Reader (reader_of (arc_value l.fn.map) (get_or l.fn.lots.items k d))))
    × ((k : ℕ) (h : PaddedBlocksHand) → l.at < k → k < length l.hands
    → (get_or l.hands k h).hand.held ≡ None)
