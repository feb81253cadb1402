-- What C is told of a range.
use Rattle.std.specs.Prelude.{◌≡◌, ℕ, ◌+◌, ℤ, List, ◌++◌, length, take, drop}
use Rattle.std.specs.Prelude.{Option, Some, None}
use Rattle.std.specs.Int.{w16, to_be_bytes}
use Rattle.std.specs.List.{flat_map}
use Rattle.std.specs.Option.{option_map}
use Rattle.mst_key.specs.Map.{Pair, map_range}
use Rattle.mst_c.specs.Codes.{bad_key, closed}
use Rattle.mst_c.specs.declared.pass_box.State.{State}
use Rattle.mst_c.specs.Holding.{Reads, Forgets}
use Rattle.mst_c.specs.Told.{Nothing, IsBound, bound_of, bytes_code, room_after, size_after}

-- a pair as it stands in a room: the lengths of its key and its value, in two bytes each with the
-- high one first, then the key and the value
abbrev pub pair_bytes : Pair → List ℕ
pair_bytes p = to_be_bytes w16 (length p.0) ++ to_be_bytes w16 (length p.1) ++ p.0 ++ p.1

-- pairs, one after the other
abbrev pub pairs_bytes : List Pair → List ℕ
pairs_bytes ps = flat_map pair_bytes ps

-- the room with these bytes in it from a place on; all else stays
abbrev pub written : ℕ → List ℕ → List ℕ → List ℕ
written at bytes room = take at room ++ bytes ++ drop (at + length bytes) room

-- the answer to a question for pairs: none if memory was refused, and a free pass has asked then
abbrev pub Ranges :
    Option (List ℕ) → Option (List ℕ) → ℕ → State → Option (List Pair) → State → Type 0
Ranges from to limit s None t = Forgets s t
Ranges from to limit s (Some pairs) t = Reads (λ _ m. map_range m from to limit) s pairs t

-- how many pairs there are
abbrev pub count_of : ℕ → Option (List Pair) → ℕ
count_of count None = count
count_of count (Some pairs) = length pairs

-- a call that came to nothing: the hand, the room and both numbers are as they were
abbrev pub NoRange :
    ℤ → State → List ℕ → ℕ → ℕ → ℤ → List ℕ → ℕ → ℕ → Option State → Type 0
NoRange wanted s room count size code room' count' size' hand =
    Nothing wanted (Some s) room code room' hand × (count' ≡ count) × (size' ≡ size)

-- -7 for an empty hand, -5 if one of the two is no bound, otherwise the answer of the pass
abbrev pub RangeTold : Option State → List ℕ → List ℕ → ℕ
    → List ℕ → ℕ → ℕ → ℤ → List ℕ → ℕ → ℕ → Option State → Type 0
RangeTold None from to limit room count size code room' count' size' hand =
    Nothing closed None room code room' hand × (count' ≡ count) × (size' ≡ size)
RangeTold (Some s) from to limit room count size code room' count' size' hand =
    (¬ (IsBound from) → NoRange bad_key s room count size code room' count' size' hand)
    × (IsBound from → ¬ (IsBound to)
    → NoRange bad_key s room count size code room' count' size' hand)
    × (IsBound from → IsBound to → (r : Option (List Pair)) × (t : State) × (hand ≡ Some t)
    × Ranges (bound_of from) (bound_of to) limit s r t
    × (code ≡ bytes_code (length room) (option_map pairs_bytes r))
    × (room' ≡ room_after room (option_map pairs_bytes r)) × (count' ≡ count_of count r)
    × (size' ≡ size_after size (option_map pairs_bytes r)))
