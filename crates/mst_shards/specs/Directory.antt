-- What the shards of a sharded map are to be for it to have a root digest.
use Rattle.std.specs.Prelude.{◌≡◌, List, [], ◌∷◌}
use Rattle.std.specs.List.{AllByRecursion}
use Rattle.mst_key.specs.declared.format.Format.{Format}
use Rattle.mst_key.specs.Map.{Pair}
use Rattle.mst_store.specs.Passes.{format_seen}
use Rattle.mst_sharded_proof.specs.Shards.{Shard, shards as shards_at, part_of}
use Rattle.mst_shards.specs.Sharding.{Sharding, maps_of, map_of}

-- the version of each shard is in this format
abbrev pub AllIn : Format → Sharding → Type 0
AllIn format h = AllByRecursion (λ p. format_seen p ≡ format) h.shards

-- each shard has keys of its interval alone
abbrev pub KeepWithin : List Shard → List (List Pair) → Type 0
KeepWithin [] ms = Unit {0}
KeepWithin (s ∷ shards) [] = Unit {0}
KeepWithin (s ∷ shards) (m ∷ ms) = (part_of m s ≡ m) × KeepWithin shards ms

abbrev pub IsClean : Sharding → Type 0
IsClean h = KeepWithin (shards_at h.splits) (maps_of h.shards)

-- all shards are in one format, each has keys of its interval alone, and this is said of the format
-- and of the map of all shards
pub record OfClean (Says : Format → List Pair → Type 0) (h : Sharding) : Type 0 where
  pub format : Format
  pub same : AllIn format h
  pub clean : IsClean h
  pub says : Says format (map_of h)
