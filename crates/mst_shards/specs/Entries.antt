-- The shard at a place, and the edit by which the directory lists it.
use Rattle.std.specs.Prelude.{◌≡◌, ℕ, zero, suc, List, [], ◌++◌, slice_get, slice_index_or}
use Rattle.mst_key.specs.declared.history.Edit.{Edit}
use Rattle.mst_key.specs.declared.history.Edit.TheVariants.{Put}
use Rattle.mst_key.specs.History.{after}
use Rattle.mst_node.specs.Text.{root as root_of}
use Rattle.mst_store.specs.Passes.{Known, format_seen}
use Rattle.mst_sharded_proof.specs.Shards.{Shard, least, part_of, bound_text}

-- the lower bound of the shard at a place, and the shard, where the first one begins at a bound
abbrev pub low_from : List ℕ → List (List ℕ) → ℕ → List ℕ
low_from low splits zero = low
low_from low splits (suc i) = slice_index_or splits i []

abbrev pub shard_from_at : List ℕ → List (List ℕ) → ℕ → Shard
shard_from_at low splits i = record { low = low_from low splits i; high = slice_get splits i }

-- the same of all shards
abbrev pub low_at : List (List ℕ) → ℕ → List ℕ
low_at splits i = low_from least splits i

abbrev pub shard_at : List (List ℕ) → ℕ → Shard
shard_at splits i = shard_from_at least splits i

-- the version that a pass has seen last has keys of the shard alone
abbrev pub KeepsTo : Shard → Known → Type 0
KeepsTo s p = part_of (after p.seen) s ≡ after p.seen

-- the edit by which the directory lists this version
abbrev pub entry_of : Shard → Known → Edit
entry_of s p = Put s.low (root_of (format_seen p) (after p.seen) ++ bound_text s.high)
