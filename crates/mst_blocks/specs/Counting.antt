-- How many rows are free in a shard or in the directory, as the writer's pass of it counts them.
use Rattle.std.specs.Prelude.{◌≡◌, ℕ, slice_index_or, slice_set, Result, Ok, Err}
use Rattle.mst_store.specs.Passes.{Known, FindsBusy}
use Rattle.mst_versions.specs.Counting.{CountsFree}
use Rattle.mst_versions.specs.declared.faults.Busy.{Busy}
use Rattle.mst_shards.specs.Sharding.{Sharding, sharding}

-- a pass counted the rows that are free in its store, or found the turn taken
abbrev pub Counts : Result ℕ Busy → Known → Known → Type 0
Counts (Ok free) p q = CountsFree free p q
Counts (Err busy) p q = FindsBusy p q

-- the pass of the shard at this place did so, and the passes of the others made no step
pub record CountsAt (place : ℕ) (counted : Result ℕ Busy) (h i : Sharding) : Type 0 where
  pub p : Known
  pub q : Known
  pub here : (d : Known) → slice_index_or h.shards place d ≡ p
  pub counts : Counts counted p q
  pub now : i ≡ sharding h.splits (slice_set h.shards place q)
