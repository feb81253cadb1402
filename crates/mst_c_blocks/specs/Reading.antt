-- What only a snapshot reads of a sharded map, and what C is told of it.
use Rattle.std.specs.Prelude.{◌≡◌, ℕ, ℤ, List, length, option_map, Option, Some, None, Result, Ok, Err}
use Rattle.mst_key.specs.declared.format.Format.{Format}
use Rattle.mst_key.specs.Map.{Pair, map_next, map_range}
use Rattle.mst_shards.specs.BlockHistory.{Whole}
use Rattle.mst_shards.specs.Directory.{AllIn}
use Rattle.mst_shards.specs.Sharding.{map_of}
use Rattle.mst_c.specs.Codes.{bad_key, closed, wrong_state, memory}
use Rattle.mst_c.specs.Formats.{format_code}
use Rattle.mst_c.specs.Ranges.{pairs_bytes, count_of}
use Rattle.mst_c.specs.Told.{IsBound, bound_of, bytes_code, room_after, size_after, pair_code, key_room_after, value_room_after, key_size_after}
use Rattle.mst_c_blocks.specs.declared.role_box.Role.{Role}
use Rattle.mst_c_blocks.specs.declared.asking.ReadRefusal.{ReadRefusal}
use Rattle.mst_c_blocks.specs.declared.asking.ReadRefusal.TheVariants.{NoSnapshot, Memory}
use Rattle.mst_c_blocks.specs.Holding.{Reads, Lists}
use Rattle.mst_c_blocks.specs.Told.{Nothing, number_code, number_after}

-- the answer to a question for the map of all shards
abbrev pub OfMap : {R : Type 0} → (List Pair → R) → Whole → R → Type 0
OfMap question s answer = answer ≡ question (map_of s.sharding)

abbrev pub read_refusal_code : ReadRefusal → ℤ
read_refusal_code NoSnapshot = wrong_state
read_refusal_code (Memory refused) = memory

-- ---- the next pair

abbrev pub next_code : ℕ → ℕ → Option (Option Pair) → ℤ
next_code keys values (Some pair) = pair_code keys values pair
next_code keys values None = wrong_state

-- the pair that was found, if one was
abbrev pub next_of : Option (Option Pair) → Option Pair
next_of (Some pair) = pair
next_of None = None

-- -7 for an empty hand, -5 for what is no bound, otherwise the answer of the snapshot
abbrev pub NextTold : Option Role → List ℕ → List ℕ → ℕ → List ℕ → ℤ → List ℕ → ℕ → List ℕ
    → Option Role → Type 0
NextTold None key keys size values code keys' size' values' hand =
    Nothing closed None values code values' hand × (keys' ≡ keys) × (size' ≡ size)
NextTold (Some r) key keys size values code keys' size' values' hand =
    (¬ (IsBound key) → Nothing bad_key (Some r) values code values' hand × (keys' ≡ keys)
    × (size' ≡ size))
    × (IsBound key → (a : Option (Option Pair)) × (t : Role) × (hand ≡ Some t)
    × Reads (OfMap (λ m. map_next m (bound_of key))) r a t
    × (code ≡ next_code (length keys) (length values) a)
    × (keys' ≡ key_room_after keys values (next_of a))
    × (size' ≡ key_size_after keys values size (next_of a))
    × (values' ≡ value_room_after keys values (next_of a)))

-- ---- ranges

abbrev pub pairs_code : ℕ → Result (List Pair) ReadRefusal → ℤ
pairs_code room (Ok pairs) = bytes_code room (Some (pairs_bytes pairs))
pairs_code room (Err fault) = read_refusal_code fault

-- the pairs that were found
abbrev pub pairs_of : Result (List Pair) ReadRefusal → Option (List Pair)
pairs_of (Ok pairs) = Some pairs
pairs_of (Err fault) = None

-- a call that came to nothing: the hand, the room and both numbers are as they were
abbrev pub NoRange : ℤ → Role → List ℕ → ℕ → ℕ → ℤ → List ℕ → ℕ → ℕ → Option Role → Type 0
NoRange wanted r room count size code room' count' size' hand =
    Nothing wanted (Some r) room code room' hand × (count' ≡ count) × (size' ≡ size)

-- -7 for an empty hand, -5 if one of the two is no bound, otherwise the answer of the snapshot
abbrev pub RangeTold : Option Role → List ℕ → List ℕ → ℕ
    → List ℕ → ℕ → ℕ → ℤ → List ℕ → ℕ → ℕ → Option Role → Type 0
RangeTold None from to limit room count size code room' count' size' hand =
    Nothing closed None room code room' hand × (count' ≡ count) × (size' ≡ size)
RangeTold (Some r) from to limit room count size code room' count' size' hand =
    (¬ (IsBound from) → NoRange bad_key r room count size code room' count' size' hand)
    × (IsBound from → ¬ (IsBound to)
    → NoRange bad_key r room count size code room' count' size' hand)
    × (IsBound from → IsBound to → (a : Result (List Pair) ReadRefusal) × (t : Role)
    × (hand ≡ Some t)
    × Lists (OfMap (λ m. map_range m (bound_of from) (bound_of to) limit)) r a t
    × (code ≡ pairs_code (length room) a)
    × (room' ≡ room_after room (option_map pairs_bytes (pairs_of a)))
    × (count' ≡ count_of count (pairs_of a))
    × (size' ≡ size_after size (option_map pairs_bytes (pairs_of a))))

-- ---- how many pairs

-- -7 for an empty hand, otherwise the number of the snapshot's pairs is written, if this is one
abbrev pub LenTold : Option Role → ℕ → ℤ → ℕ → Option Role → Type 0
LenTold None count code count' hand = (code ≡ closed) × (count' ≡ count) × (hand ≡ None)
LenTold (Some r) count code count' hand = (a : Option ℕ) × (t : Role) × (hand ≡ Some t)
    × Reads (OfMap (λ m. length m)) r a t × (code ≡ number_code a)
    × (count' ≡ number_after count a)

-- ---- formats

-- all shards are in this format
abbrev pub HasFormat : Whole → Format → Type 0
HasFormat s format = AllIn format s.sharding

abbrev pub one_format_code : Option Format → ℤ
one_format_code (Some format) = format_code format
one_format_code None = wrong_state

-- -7 for an empty hand, otherwise the number of the format
abbrev pub FormatTold : Option Role → ℤ → Option Role → Type 0
FormatTold None code hand = (code ≡ closed) × (hand ≡ None)
FormatTold (Some r) code hand = (a : Option Format) × (t : Role) × (hand ≡ Some t)
    × Reads HasFormat r a t × (code ≡ one_format_code a)
