-- The bounds of a read across shards.
use Rattle.std.specs.Prelude.{ℕ, zero, suc, if◌then◌else◌, List, Option, Some, None, slice_get, length, drop}
use Rattle.std.specs.Option.{option_map_or}
use Rattle.std.specs.Ordering.{is_lt}
use Rattle.mst_key.specs.Map.{Pair, key_cmp}
use Rattle.mst_sharded_proof.specs.Shards.{shards as shards_at}
use Rattle.mst_store.specs.Passes.{Known}
use Rattle.mst_shards.specs.Sharding.{place, union, maps_of}

-- the greater of two lower bounds; `None` as a bound does not bind
abbrev pub greater : Option (List ℕ) → Option (List ℕ) → Option (List ℕ)
greater None other = other
greater (Some a) None = Some a
greater (Some a) (Some b) = if is_lt (key_cmp a b) then Some b else Some a

-- the lesser of two upper bounds
abbrev pub lesser : Option (List ℕ) → Option (List ℕ) → Option (List ℕ)
lesser None other = other
lesser (Some a) None = Some a
lesser (Some a) (Some b) = if is_lt (key_cmp a b) then Some a else Some b

-- the split before a shard, if there is one
abbrev pub split_before : List (List ℕ) → ℕ → Option (List ℕ)
split_before splits zero = None
split_before splits (suc i) = slice_get splits i

-- the first shard that may have a key from a lower bound on, and the last that may have one below
-- an upper bound
abbrev pub first_place : List (List ℕ) → Option (List ℕ) → ℕ
first_place splits bound = option_map_or (place splits) bound 0

abbrev pub last_place : List (List ℕ) → Option (List ℕ) → ℕ
last_place splits bound = option_map_or (place splits) bound (length splits)

-- the pairs of the shards from a place on
abbrev pub union_from : ℕ → List (List ℕ) → List Known → List Pair
union_from i splits shards = union (drop i (shards_at splits)) (drop i (maps_of shards))
