-- A sharded map that is written in blocks: its writer, and the snapshots of its readers, beside a
-- history of the directory's store.
use Rattle.std.specs.Prelude.{◌≡◌, ℕ}
use Rattle.mst_key.specs.History.{History, IsPrefix}
use Rattle.mst_store.specs.Passes.{format_seen}
use Rattle.mst_shards.specs.BlockHistory.{Blocks, Whole, IsNumber, IsOneBlock}
use Rattle.mst_blocks.specs.Writing.{at_last, IsWriter, HasMade}

-- The writer has made these blocks and no others. The history begins with what its pass of the
-- directory has seen
pub record HasWritten (blocks : Blocks) (w : Whole) (log : History) : Type 0 where
  pub writer : IsWriter w
  pub made : HasMade blocks w
  pub later : IsPrefix w.directory.seen log

-- A snapshot of the writer's map, of the block with this number. The history begins with what the
-- reader's pass of the directory had seen when it pinned it
pub record IsSnapshotOf (n : ℕ) (v w : Whole) (log : History) : Type 0 where
  pub one : IsOneBlock v
  pub number : IsNumber n v
  pub splits : v.sharding.splits ≡ w.sharding.splits
  pub store : v.directory.store ≡ w.directory.store
  pub format : format_seen (at_last w.directory) ≡ one.format
  pub later : IsPrefix v.directory.seen log
