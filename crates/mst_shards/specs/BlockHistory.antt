-- The history of blocks: each block is one change of the whole map, and one version of the
-- directory.
use Rattle.std.specs.Prelude.{◌≡◌, ℕ, ◌+◌, ◌≤◌, List, [], ◌∷◌, length, take}
use Rattle.std.specs.List.{AllByRecursion}
use Rattle.mst_key.specs.declared.format.Format.{Format}
use Rattle.mst_key.specs.declared.history.Edit.{Edit}
use Rattle.mst_key.specs.History.{History, after, batched}
use Rattle.mst_key.specs.Map.{Pair, IsMap}
use Rattle.mst_store.specs.Passes.{Known, format_seen}
use Rattle.mst_sharded_proof.specs.Shards.{directory}
use Rattle.mst_sharded_proof.specs.Theorem.{IsSharded}
use Rattle.mst_shards.specs.Directory.{AllIn, IsClean}
use Rattle.mst_shards.specs.Sharding.{Sharding, sharding, IsSharding, HaveFewPairs, map_of}

-- blocks, the oldest first: the edits of each
abbrev pub Blocks : Type 0
Blocks = List (List Edit)

-- the map that blocks leave, one after another, from a map on, and from the empty map on
abbrev pub made_from : List Pair → Blocks → List Pair
made_from m [] = m
made_from m (b ∷ blocks) = made_from (batched m b) blocks

abbrev pub map_made : Blocks → List Pair
map_made blocks = made_from [] blocks

-- The history of a directory is that of these blocks: its first version lists the empty map, and
-- each further one the map after one block more. So block n is its version n + 1. All of these maps
-- have room in the shards
pub record Records (format : Format) (splits : List (List ℕ)) (log : History) (blocks : Blocks)
    : Type 0 where
  pub count : length log ≡ length blocks + 1
  pub lists : (n : ℕ) → n ≤ length blocks
      → after (take (n + 1) log) ≡ directory format (map_made (take n blocks)) splits
  pub sharded : (n : ℕ) → n ≤ length blocks → IsSharded (map_made (take n blocks)) splits

-- a snapshot: what is known of the pinned version of each shard, and of that of the directory
pub record Whole : Type 0 where
  pub sharding : Sharding
  pub directory : Known

abbrev pub whole : List (List ℕ) → List Known → Known → Whole
whole splits shards directory =
    record { sharding = sharding splits shards; directory = directory }

-- its block: how many there were before it, and it
abbrev pub IsNumber : ℕ → Whole → Type 0
IsNumber n w = length w.directory.seen ≡ n + 1

-- All of it is of one block: the directory lists the root digest of each shard as pinned, all in
-- one format, and each shard has keys of its interval alone
pub record IsOneBlock (w : Whole) : Type 0 where
  pub format : Format
  pub sharding_is : IsSharding w.sharding
  pub maps : AllByRecursion (λ (p : Known). IsMap (after p.seen)) w.sharding.shards
  pub few : HaveFewPairs w.sharding.shards
  pub same : AllIn format w.sharding
  pub clean : IsClean w.sharding
  pub format_is : format_seen w.directory ≡ format
  pub listed : after w.directory.seen ≡ directory format (map_of w.sharding) w.sharding.splits
