-- Which tests a proof of a sharded map has passed when a fault is returned: those of its frame,
-- then those of the directory's proof, of the bounds, and last those of the shard's proof.
use Rattle.std.specs.Prelude.{◌≡◌, ◌≢◌, ◌<◌, ◌⊎◌, ℕ, List, ◌∷◌, ◌++◌, Option, Some, None, length, IfSome}
use Rattle.std.specs.declared.cmp.Ordering.TheVariants.{Less}
use Rattle.mst_key.specs.declared.format.Format.{Format}
use Rattle.mst_key.specs.Bytes.{IsKey}
use Rattle.mst_key.specs.Map.{key_cmp}
use Rattle.mst_node.specs.Text.{counted}
use Rattle.mst_proof.specs.Accepted.{Accepted}
use Rattle.mst_proof.specs.Faults.{ProofFails}
use Rattle.mst_sharded_proof.specs.Shards.{bound_text}
use Rattle.mst_sharded_proof.specs.Frame.{Parts, sharded_format_byte}
use Rattle.mst_sharded_proof.specs.Accepted.{Frames}
use Rattle.mst_sharded_proof.specs.declared.fault.ShardedFault.{ShardedFault}
use Rattle.mst_sharded_proof.specs.declared.fault.ShardedFault.TheVariants.{FormatByte, CutShort, NoKey, Directory, NotListed, NoListing, KeyBelow, KeyNotBelow, Shard}

-- ---- the frame

-- the bytes begin with the format's byte and with these bytes after their length, in a key's place
abbrev pub Begins : Format → List ℕ → List ℕ → Type 0
Begins format bytes low =
    (rest : List ℕ) × (bytes ≡ sharded_format_byte format ∷ counted low ++ rest)

-- The first byte is not the format's; or it is, no bytes that are no key stand in the key's place,
-- and the bytes frame no parts; or bytes that are no key stand there.
abbrev pub FrameFails : Format → List ℕ → ShardedFault → Type 0
FrameFails format bytes FormatByte =
    (v : ℕ) × (rest : List ℕ) × (bytes ≡ v ∷ rest) × (v ≢ sharded_format_byte format)
FrameFails format bytes CutShort =
    ((v : ℕ) (rest : List ℕ) → bytes ≡ v ∷ rest → v ≡ sharded_format_byte format)
    × ((low : List ℕ) → Begins format bytes low → IsKey low)
    × ((p : Parts) → Frames format bytes p → ⊥)
FrameFails format bytes NoKey = (low : List ℕ) × Begins format bytes low × (IsKey low → ⊥)
FrameFails format bytes (Directory fault) = ⊥
FrameFails format bytes NotListed = ⊥
FrameFails format bytes NoListing = ⊥
FrameFails format bytes KeyBelow = ⊥
FrameFails format bytes KeyNotBelow = ⊥
FrameFails format bytes (Shard fault) = ⊥

-- ---- the parts

-- the directory's proof shows a digest and an upper bound, if there is one, for the lower bound
pub record Lists (format : Format) (root : List ℕ) (p : Parts) (digest : List ℕ)
    (high : Option (List ℕ)) : Type 0 where
  pub size : length digest ≡ 32
  pub some : IfSome high (λ h. 0 < length h)
  pub listed : Accepted format root p.low p.directory (Some (digest ++ bound_text high))

-- The directory's proof fails; or it shows absence, or fewer bytes than a digest; or the key is
-- less than the lower bound; or it is not, and not less than the upper bound either; or the key
-- keeps the bounds, and the shard's proof fails for the digest.
abbrev pub PartsFail : Format → List ℕ → List ℕ → Parts → ShardedFault → Type 0
PartsFail format root k p FormatByte = ⊥
PartsFail format root k p CutShort = ⊥
PartsFail format root k p NoKey = ⊥
PartsFail format root k p (Directory fault) = ProofFails format root p.low p.directory fault
PartsFail format root k p NotListed = Accepted format root p.low p.directory None
PartsFail format root k p NoListing =
    (held : List ℕ) × Accepted format root p.low p.directory (Some held) × (length held < 32)
PartsFail format root k p KeyBelow =
    (digest : List ℕ) × (high : Option (List ℕ)) × Lists format root p digest high
    × (key_cmp k p.low ≡ Less)
PartsFail format root k p KeyNotBelow =
    (digest : List ℕ) × (high : List ℕ) × Lists format root p digest (Some high)
    × (key_cmp k p.low ≢ Less) × (key_cmp k high ≢ Less)
PartsFail format root k p (Shard fault) =
    (digest : List ℕ) × (high : Option (List ℕ)) × Lists format root p digest high
    × (key_cmp k p.low ≢ Less) × IfSome high (λ h. key_cmp k h ≡ Less)
    × ProofFails format digest k p.shard fault

-- the frame fails, or it is well and its parts fail
abbrev pub ShardedFails : Format → List ℕ → List ℕ → List ℕ → ShardedFault → Type 0
ShardedFails format root k bytes fault = FrameFails format bytes fault
    ⊎ ((p : Parts) × Frames format bytes p × PartsFail format root k p fault)
