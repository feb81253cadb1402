-- A pinned shard and what the directory has of it.
use Rattle.std.specs.Prelude.{◌≡◌, ◌<◌, ℕ, zero, suc, List, ◌++◌, Option, Some, None, length, slice_get}
use Rattle.mst_key.specs.declared.format.Format.{Format}
use Rattle.mst_key.specs.History.{after}
use Rattle.mst_key.specs.Map.{Pair}
use Rattle.mst_node.specs.Text.{root as root_of}
use Rattle.mst_store.specs.Passes.{Known, format_seen}
use Rattle.mst_sharded_proof.specs.Shards.{Shard, bound_text}
use Rattle.mst_shards.specs.Entries.{low_at, shard_at, KeepsTo}
use Rattle.mst_snapshots.specs.Reading.{pass_at}

-- what a directory has of a shard that is listed with this version: its root digest and its bounds
abbrev pub listed_pair : Shard → Known → Pair
listed_pair s p = (s.low, root_of (format_seen p) (after p.seen) ++ bound_text s.high)

-- The version of a shard is in this format, has keys of the shard alone, and is the one that was
-- found in the directory
pub record Agrees (format : Format) (s : Shard) (p : Known) (found : Option Pair) : Type 0 where
  pub same : format_seen p ≡ format
  pub entry : found ≡ Some (listed_pair s p)
  pub keeps : KeepsTo s p

-- so do the first shards, each with the pair at its place in the directory
abbrev pub AgreeTo : Format → List (List ℕ) → List Known → List Pair → ℕ → Type 0
AgreeTo format splits ps m n =
    (k : ℕ) → k < n → Agrees format (shard_at splits k) (pass_at ps k) (slice_get m k)

-- these versions of shards, where they are the last that passes have seen, have keys of the shard
-- alone
abbrev pub AreClean : List (List ℕ) → List ℕ → List Known → Type 0
AreClean splits versions ps = (k : ℕ) → k < length ps
    → slice_get versions k ≡ Some (length (pass_at ps k).seen)
    → KeepsTo (shard_at splits k) (pass_at ps k)

-- the lower bound of the shard before a place, if there is one
abbrev pub low_before : List (List ℕ) → ℕ → Option (List ℕ)
low_before splits zero = None
low_before splits (suc i) = Some (low_at splits i)
