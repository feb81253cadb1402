-- A sharded map: the intervals of keys that splits make, and the directory over them.
use Rattle.std.specs.Prelude.{◌≡◌, ◌&&◌, if◌then◌else◌, ℕ, Bool, List, [], ◌∷◌, ◌++◌, Option, Some, None, filter, map}
use Rattle.std.specs.declared.cmp.Ordering.TheVariants.{Less}
use Rattle.std.specs.Ordering.{is_lt}
use Rattle.mst_key.specs.declared.format.Format.{Format}
use Rattle.mst_key.specs.Bytes.{IsKey}
use Rattle.mst_key.specs.Map.{Pair, key_cmp, from_on, below}
use Rattle.mst_node.specs.Text.{root as root_of}

-- ---- shards

-- the interval of a shard's keys: from the lower bound on, and below the upper one, if there is one
pub record Shard : Type 0 where
  pub low : List ℕ
  pub high : Option (List ℕ)

-- the least key of all
abbrev pub least : List ℕ
least = 0 ∷ []

-- splits are keys that rise strictly, from above a bound
abbrev pub AreSplits : List ℕ → List (List ℕ) → Type 0
AreSplits low [] = Unit {0}
AreSplits low (s ∷ splits) = (key_cmp low s ≡ Less) × IsKey s × AreSplits s splits

-- the shards from a lower bound on: each split ends one and begins the next
abbrev pub shards_from : List ℕ → List (List ℕ) → List Shard
shards_from low [] = record { low = low; high = None } ∷ []
shards_from low (s ∷ splits) = record { low = low; high = Some s } ∷ shards_from s splits

abbrev pub shards : List (List ℕ) → List Shard
shards splits = shards_from least splits

-- the shard of a key: the first one that ends above it
abbrev pub shard_from : List ℕ → List (List ℕ) → List ℕ → Shard
shard_from low [] k = record { low = low; high = None }
shard_from low (s ∷ splits) k =
    if is_lt (key_cmp k s) then record { low = low; high = Some s } else shard_from s splits k

abbrev pub shard_of : List (List ℕ) → List ℕ → Shard
shard_of splits k = shard_from least splits k

-- whether a key lies in a shard
abbrev pub is_in : Shard → List ℕ → Bool
is_in s k = from_on (Some s.low) k && below s.high k

-- the part of a map that lies in a shard
abbrev pub part_of : List Pair → Shard → List Pair
part_of m s = filter (λ p. is_in s p.0) m

-- ---- the directory

-- the bytes of an upper bound, none if there is no bound
abbrev pub bound_text : Option (List ℕ) → List ℕ
bound_text None = []
bound_text (Some high) = high

-- what the directory holds of a shard: the root digest of its part of the map, and its upper bound
abbrev pub listing : Format → List Pair → Shard → List ℕ
listing format m s = root_of format (part_of m s) ++ bound_text s.high

abbrev pub directory_from : Format → List Pair → List ℕ → List (List ℕ) → List Pair
directory_from format m low splits =
    map (λ s. (s.low, listing format m s)) (shards_from low splits)

-- the directory of a map: a map from the lower bound of each shard to what is held of it
abbrev pub directory : Format → List Pair → List (List ℕ) → List Pair
directory format m splits = directory_from format m least splits

-- the root digest of a sharded map is that of its directory
abbrev pub sharded_root : Format → List Pair → List (List ℕ) → List ℕ
sharded_root format m splits = root_of format (directory format m splits)
