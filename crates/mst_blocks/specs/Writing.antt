-- A writer of a sharded map, and what its blocks do.
use Rattle.std.specs.Prelude.{◌≡◌, ℕ, ◌<◌, ◌≤◌, ◌+◌, List, [], ◌++◌, length, map, take}
use Rattle.std.specs.List.{AllByRecursion}
use Rattle.mst_key.specs.declared.format.Format.{Format}
use Rattle.mst_key.specs.declared.history.Edit.{Edit}
use Rattle.mst_key.specs.declared.history.Edit.TheVariants.{Put}
use Rattle.mst_key.specs.History.{after, batched}
use Rattle.mst_key.specs.Map.{Pair}
use Rattle.mst_node.specs.Text.{root as root_of}
use Rattle.mst_store.specs.Passes.{Known, format_seen}
use Rattle.mst_sharded_proof.specs.Shards.{Shard, bound_text, shards as shards_at}
use Rattle.mst_blocks.specs.Blocks.{last_made, parts_of, MakesBlock, LeavesAll, RefusesPart, RefusesParts}
use Rattle.mst_shards.specs.BlockHistory.{Blocks, map_made, Records, Whole, IsOneBlock}
use Rattle.mst_shards.specs.Laid.{AreOf}
use Rattle.mst_shards.specs.Opening.{Shards}
use Rattle.mst_shards.specs.Sharding.{sharding, map_of}
use Rattle.mst_blocks.specs.declared.faults.BlockFault.{BlockFault}
use Rattle.mst_blocks.specs.declared.faults.BlockFault.TheVariants.{Memory, Shard as OfShard, Directory}

-- ---- the last block of a writer

-- what a pass knows, as of the version that it made last
abbrev pub at_last : Known → Known
at_last p = record p { seen = take (last_made p) p.seen }

-- of each shard the version that its pass made last, and that of the directory
abbrev pub last_block : Whole → Whole
last_block w = record {
  sharding = sharding w.sharding.splits (map at_last w.sharding.shards);
  directory = at_last w.directory;
}

-- its map
abbrev pub block_map : Whole → List Pair
block_map w = map_of (last_block w).sharding

-- the pass has seen the version that it made last
abbrev pub HasSeenLast : Known → Type 0
HasSeenLast p = last_made p ≤ length p.seen

-- The passes have made all versions up to the last ones together, block by block: these are of one
-- block
pub record IsWriter (w : Whole) : Type 0 where
  pub seen : AllByRecursion HasSeenLast w.sharding.shards
  pub listing : HasSeenLast w.directory
  pub begun : 0 < last_made w.directory
  pub block : IsOneBlock (last_block w)

-- what the writer of a map keeps: its passes are of the map's stores
pub record IsWriterOf (s : Shards) (w : Whole) : Type 0 where
  pub own : AreOf s.stores w.sharding.shards
  pub directory : w.directory.store ≡ s.directory
  pub writer : IsWriter w

-- the root digest of a directory in the version that its pass made last
abbrev pub IsLastRoot : List ℕ → Known → Type 0
IsLastRoot digest d = digest ≡ root_of (format_seen (at_last d)) (after (at_last d).seen)

-- passes of the same stores as before
abbrev pub KeepStores : List Known → List Known → Known → Known → Type 0
KeepStores ps qs d e =
    (map (λ p. p.store) qs ≡ map (λ p. p.store) ps) × (e.store ≡ d.store)

-- ---- the first block

-- the edit by which the directory lists a shard of the empty map
abbrev pub empty_listing : Format → Shard → Edit
empty_listing format s = Put s.low (root_of format [] ++ bound_text s.high)

abbrev pub empty_listings : Format → List Shard → List Edit
empty_listings format shards = map (λ s. empty_listing format s) shards

-- why a map has no first block: a growth was refused, or the directory was refused the edits that
-- list the empty map
abbrev pub RefusesFirst : BlockFault → Format → List (List ℕ) → Known → Type 0
RefusesFirst (Memory refused) format splits d = Unit {0}
RefusesFirst (OfShard i fault) format splits d = ⊥
RefusesFirst (Directory fault) format splits d =
    (e : Known) × RefusesPart fault (empty_listings format (shards_at splits)) d e

-- ---- a block more, or none

-- The block is made whole: each shard made its part as its next version, and the directory lists
-- these in its next one. The map is that of the block before with all of the edits, made one after
-- another
pub record AddsBlock (edits : List Edit) (w v : Whole) : Type 0 where
  pub splits : v.sharding.splits ≡ w.sharding.splits
  pub made : MakesBlock w.sharding.splits (parts_of w.sharding.splits edits) w.sharding.shards
      v.sharding.shards w.directory v.directory
  pub map : block_map v ≡ batched (block_map w) edits
  pub number : last_made v.directory ≡ last_made w.directory + 1

-- Nothing was made by any pass, and the last block is the one that it was. The fault names the
-- shard that was refused
pub record RefusesBlock (fault : BlockFault) (edits : List Edit) (w v : Whole) : Type 0 where
  pub splits : v.sharding.splits ≡ w.sharding.splits
  pub nothing : LeavesAll w.sharding.shards v.sharding.shards w.directory v.directory
  pub why : RefusesParts fault w.sharding.splits (parts_of w.sharding.splits edits)
      w.sharding.shards v.sharding.shards w.directory v.directory
  pub map : block_map v ≡ block_map w
  pub number : last_made v.directory ≡ last_made w.directory

-- The writer has made these blocks and no others: its map is the one that they leave, one after
-- another, and the history of its directory records them
pub record HasMade (blocks : Blocks) (w : Whole) : Type 0 where
  pub map : block_map w ≡ map_made blocks
  pub records : Records (format_seen (at_last w.directory)) w.sharding.splits
      (at_last w.directory).seen blocks
