-- How many rows are free in a shard or in the directory: what the writer in a hand tells, and what
-- C is told.
use Rattle.std.specs.Prelude.{◌≡◌, ◌⊎◌, ◌<◌, ℕ, ℤ, pos, length, Option, Some, None, Result, Ok, Err}
use Rattle.mst_versions.specs.declared.faults.Busy.{Busy as StoreBusy}
use Rattle.mst_shards.specs.BlockHistory.{Whole}
use Rattle.mst_blocks.specs.Counting.{Counts, CountsAt}
use Rattle.mst_c.specs.Codes.{absent, closed, wrong_state, busy}
use Rattle.mst_c_blocks.specs.declared.counting.RowsRefusal.{RowsRefusal}
use Rattle.mst_c_blocks.specs.declared.counting.RowsRefusal.TheVariants.{NoWriter, NoShard, Busy}
use Rattle.mst_c_blocks.specs.declared.role_box.Role.{Role}
use Rattle.mst_c_blocks.specs.declared.role_box.Role.TheVariants.{Away, Writer, Reader, Snapshot, Block, Part}
use Rattle.mst_c_blocks.specs.Holding.{StaysWriter}

-- the writer's pass of the shard with this number counted, or that of the directory, which has the
-- number of the shards
abbrev pub CountsIn : ℕ → Result ℕ StoreBusy → Whole → Whole → Type 0
CountsIn shard counted w v =
    ((shard < length w.sharding.shards) × CountsAt shard counted w.sharding v.sharding
    × (v.directory ≡ w.directory))
    ⊎ ((shard ≡ length w.sharding.shards) × Counts counted w.directory v.directory
    × (v.sharding ≡ w.sharding))

-- The writer counts the free rows of one of its stores, if there is one of this number and no other
-- pass has its turn. What is no writer counts none
abbrev pub CountsRows : ℕ → Role → Result ℕ RowsRefusal → Role → Type 0
CountsRows shard Away counted now = ⊥
CountsRows shard (Writer w) (Ok free) now =
    (v : Whole) × (now ≡ Writer v) × StaysWriter w v × CountsIn shard (Ok free) w v
CountsRows shard (Writer w) (Err Busy) now =
    (v : Whole) × (now ≡ Writer v) × StaysWriter w v
    × ((taken : StoreBusy) × CountsIn shard (Err taken) w v)
CountsRows shard (Writer w) (Err NoShard) now =
    (now ≡ Writer w) × (length w.sharding.shards < shard)
CountsRows shard (Writer w) (Err NoWriter) now = ⊥
CountsRows shard (Reader r) counted now = (counted ≡ Err NoWriter) × (now ≡ Reader r)
CountsRows shard (Snapshot s) counted now = (counted ≡ Err NoWriter) × (now ≡ Snapshot s)
CountsRows shard (Block b) counted now = (counted ≡ Err NoWriter) × (now ≡ Block b)
CountsRows shard (Part p) counted now = (counted ≡ Err NoWriter) × (now ≡ Part p)

abbrev pub free_code : Result ℕ RowsRefusal → ℤ
free_code (Ok n) = pos 0
free_code (Err NoWriter) = wrong_state
free_code (Err NoShard) = absent
free_code (Err Busy) = busy

-- the free rows, where they were counted
abbrev pub free_after : ℕ → Result ℕ RowsRefusal → ℕ
free_after number (Ok n) = n
free_after number (Err fault) = number

-- -7 for an empty hand, otherwise what the writer counted
abbrev pub FreeRowsTold : Option Role → ℕ → ℕ → ℤ → ℕ → Option Role → Type 0
FreeRowsTold None shard number code number' hand =
    (code ≡ closed) × (number' ≡ number) × (hand ≡ None)
FreeRowsTold (Some r) shard number code number' hand =
    (counted : Result ℕ RowsRefusal) × (t : Role) × (hand ≡ Some t) × CountsRows shard r counted t
    × (code ≡ free_code counted) × (number' ≡ free_after number counted)
