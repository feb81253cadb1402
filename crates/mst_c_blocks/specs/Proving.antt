-- The proofs and the directory of a snapshot, and what C is told of them.
use Rattle.std.specs.Prelude.{◌≡◌, ℕ, ℤ, List, length, option_map, Option, Some, None, Result, Ok, Err}
use Rattle.mst_key.specs.Bytes.{IsKey}
use Rattle.mst_key.specs.Map.{Pair}
use Rattle.mst_sharded_proof.specs.Frame.{sharded_proof}
use Rattle.mst_sharded_proof.specs.Shards.{directory}
use Rattle.mst_shards.specs.BlockHistory.{Whole}
use Rattle.mst_shards.specs.Directory.{OfClean}
use Rattle.mst_c.specs.Codes.{bad_key, closed}
use Rattle.mst_c.specs.Ranges.{pairs_bytes, count_of}
use Rattle.mst_c.specs.Told.{bytes_code, room_after, size_after}
use Rattle.mst_c_blocks.specs.declared.role_box.Role.{Role}
use Rattle.mst_c_blocks.specs.declared.asking.ReadRefusal.{ReadRefusal}
use Rattle.mst_c_blocks.specs.Holding.{Lists}
use Rattle.mst_c_blocks.specs.Reading.{read_refusal_code, pairs_code, pairs_of}
use Rattle.mst_c_blocks.specs.Told.{Nothing}

-- these bytes are the proof of a key's answer, in the format and the map of all shards
abbrev pub HasProof : List ℕ → Whole → List ℕ → Type 0
HasProof key s bytes =
    OfClean (λ format m. bytes ≡ sharded_proof format m s.sharding.splits key) s.sharding

-- these pairs are the directory's
abbrev pub HasDirectory : Whole → List Pair → Type 0
HasDirectory s pairs =
    OfClean (λ format m. pairs ≡ directory format m s.sharding.splits) s.sharding

-- the bytes of a proof, if there is one
abbrev pub proof_of : Result (List ℕ) ReadRefusal → Option (List ℕ)
proof_of (Ok bytes) = Some bytes
proof_of (Err fault) = None

abbrev pub proof_code : ℕ → Result (List ℕ) ReadRefusal → ℤ
proof_code room (Ok bytes) = bytes_code room (Some bytes)
proof_code room (Err fault) = read_refusal_code fault

-- -7 for an empty hand, -5 for what is no key, otherwise the answer of the snapshot
abbrev pub ProveTold : Option Role → List ℕ → List ℕ → ℕ → ℤ → List ℕ → ℕ → Option Role → Type 0
ProveTold None key room size code room' size' hand =
    Nothing closed None room code room' hand × (size' ≡ size)
ProveTold (Some r) key room size code room' size' hand =
    (¬ (IsKey key) → Nothing bad_key (Some r) room code room' hand × (size' ≡ size))
    × (IsKey key → (a : Result (List ℕ) ReadRefusal) × (t : Role) × (hand ≡ Some t)
    × Lists (HasProof key) r a t × (code ≡ proof_code (length room) a)
    × (room' ≡ room_after room (proof_of a)) × (size' ≡ size_after size (proof_of a)))

-- -7 for an empty hand, otherwise the answer of the snapshot, as that of a range
abbrev pub DirectoryTold : Option Role → List ℕ → ℕ → ℕ → ℤ → List ℕ → ℕ → ℕ → Option Role
    → Type 0
DirectoryTold None room count size code room' count' size' hand =
    Nothing closed None room code room' hand × (count' ≡ count) × (size' ≡ size)
DirectoryTold (Some r) room count size code room' count' size' hand =
    (a : Result (List Pair) ReadRefusal) × (t : Role) × (hand ≡ Some t) × Lists HasDirectory r a t
    × (code ≡ pairs_code (length room) a)
    × (room' ≡ room_after room (option_map pairs_bytes (pairs_of a)))
    × (count' ≡ count_of count (pairs_of a))
    × (size' ≡ size_after size (option_map pairs_bytes (pairs_of a)))
