-- How a proof of a sharded map is cut into its parts.
use Rattle.std.specs.Prelude.{ℕ, ◌==◌, nat_lt, nat_le, ◌&&◌, if◌then◌else◌, Bool, List, [], ◌∷◌, ◌++◌, length, take, drop, Option, Some, None}
use Rattle.std.specs.Int.{w32, to_be_bytes}
use Rattle.std.specs.declared.result.Result.{Result}
use Rattle.std.specs.declared.result.Result.TheVariants.{Ok, Err}
use Rattle.mst_key.specs.declared.format.Format.{Format}
use Rattle.mst_key.specs.declared.format.Format.TheVariants.{One, Two}
use Rattle.mst_key.specs.Map.{Pair}
use Rattle.mst_node.specs.Text.{counted}
use Rattle.mst_node.specs.Trail.{proof_text}
use Rattle.mst_proof.specs.Frame.{text_at}
use Rattle.mst_sharded_proof.specs.Shards.{shard_of, part_of, directory}
use Rattle.mst_sharded_proof.specs.declared.fault.ShardedFault.{ShardedFault}
use Rattle.mst_sharded_proof.specs.declared.fault.ShardedFault.TheVariants.{FormatByte, CutShort, NoKey}

-- the step after a result, if that is no fault
infixl 10 ◌>>◌
abbrev pub ◌>>◌ : {A B : Type 0} → Result A ShardedFault → (A → Result B ShardedFault)
    → Result B ShardedFault
(Err f) >> g = Err f
(Ok x) >> g = g x

-- the first byte: another than that of a text or a proof of one map
abbrev pub sharded_format_byte : Format → ℕ
sharded_format_byte One = 3
sharded_format_byte Two = 4

-- the lower bound of the key's shard, the directory's proof for it, and the shard's for the key
pub record Parts : Type 0 where
  pub low : List ℕ
  pub directory : List ℕ
  pub shard : List ℕ

-- ---- writing

-- the bytes of a proof of these parts
abbrev pub framing : Format → Parts → List ℕ
framing format p =
    sharded_format_byte format ∷ counted p.low ++ (to_be_bytes w32 (length p.directory)
    ++ (p.directory ++ p.shard))

-- the parts of a map's proof for a key
abbrev pub parts_for : Format → List Pair → List (List ℕ) → List ℕ → Parts
parts_for format m splits k =
    let s = shard_of splits k in
    record {
      low = s.low;
      directory = proof_text format (directory format m splits) s.low;
      shard = proof_text format (part_of m s) k;
    }

-- the proof of a map's answer for a key
abbrev pub sharded_proof : Format → List Pair → List (List ℕ) → List ℕ → List ℕ
sharded_proof format m splits k = framing format (parts_for format m splits k)

-- ---- reading

-- whether these bytes are a key
abbrev pub is_key : List ℕ → Bool
is_key bytes = nat_lt 0 (length bytes) && nat_le (length bytes) 32

-- a key, and the bytes after it
abbrev pub key_with : List ℕ → List ℕ → Result (List ℕ × List ℕ) ShardedFault
key_with key rest = if is_key key then Ok (key, rest) else Err NoKey

-- a key after its length, and the bytes after it
abbrev pub key_at : List ℕ → Result (List ℕ × List ℕ) ShardedFault
key_at [] = Err CutShort
key_at (n ∷ bytes) =
    if nat_lt (length bytes) n then Err CutShort else key_with (take n bytes) (drop n bytes)

-- the parts, of which the directory's proof stands after its length in four bytes
abbrev pub parts_with : List ℕ → Option (List ℕ × List ℕ) → Result Parts ShardedFault
parts_with low None = Err CutShort
parts_with low (Some t) = Ok (record { low = low; directory = t.0; shard = t.1 })

-- the parts of a proof, or the first fault of its frame
abbrev pub parts_at : Format → List ℕ → Result Parts ShardedFault
parts_at format [] = Err CutShort
parts_at format (v ∷ bytes) =
    if v == sharded_format_byte format then
    (key_at bytes >> λ low. parts_with low.0 (text_at low.1))
    else Err FormatByte
