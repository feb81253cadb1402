-- When a proof of a sharded map is accepted for a root digest and a key, with an answer.
use Rattle.std.specs.Prelude.{◌≡◌, ◌≢◌, ◌<◌, ℕ, List, ◌++◌, Option, Some, length, IfSome}
use Rattle.std.specs.declared.cmp.Ordering.TheVariants.{Less}
use Rattle.mst_key.specs.declared.format.Format.{Format}
use Rattle.mst_key.specs.Bytes.{IsKey}
use Rattle.mst_key.specs.Map.{key_cmp}
use Rattle.mst_proof.specs.Accepted.{Accepted}
use Rattle.mst_proof.specs.Faults.{IsShort}
use Rattle.mst_sharded_proof.specs.Shards.{bound_text}
use Rattle.mst_sharded_proof.specs.Frame.{Parts, framing}

-- the bytes frame these parts
pub record Frames (format : Format) (bytes : List ℕ) (p : Parts) : Type 0 where
  pub key : IsKey p.low
  pub short : IsShort p.directory
  pub whole : bytes ≡ framing format p

-- The bytes frame a lower bound and two proofs. The first is accepted for the root and the bound,
-- with a digest and an upper bound, if there is one; the key keeps both bounds; and the second is
-- accepted for the digest and the key, with the answer.
pub record ShardedAccepted (format : Format) (root k bytes : List ℕ) (a : Option (List ℕ))
    : Type 0 where
  pub parts : Parts
  pub frames : Frames format bytes parts
  pub digest : List ℕ
  pub high : Option (List ℕ)
  pub size : length digest ≡ 32
  pub some : IfSome high (λ h. 0 < length h)
  pub listed : Accepted format root parts.low parts.directory (Some (digest ++ bound_text high))
  pub from : key_cmp k parts.low ≢ Less
  pub to : IfSome high (λ h. key_cmp k h ≡ Less)
  pub answers : Accepted format digest k parts.shard a
