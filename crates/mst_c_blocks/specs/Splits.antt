-- The splits of a sharded map in a buffer: each is a byte for its length, and then its bytes. They
-- stand one after the other, with no byte left over.
use Rattle.std.specs.Prelude.{◌≡◌, ℕ, List, [], ◌∷◌, ◌++◌, length}
use Rattle.mst_shards.specs.Sharding.{IsSplits}

-- keys, each behind its length
abbrev pub splits_bytes : List (List ℕ) → List ℕ
splits_bytes [] = []
splits_bytes (k ∷ ks) = length k ∷ (k ++ splits_bytes ks)

-- the bytes are those of splits that a sharded map may have
pub record PacksSplits (bytes : List ℕ) (splits : List (List ℕ)) : Type 0 where
  pub packed : bytes ≡ splits_bytes splits
  pub are : IsSplits splits
