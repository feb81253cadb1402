-- What the numbers of two snapshots say of them.
use Rattle.std.specs.Prelude.{◌≡◌, List, ℕ}
use Rattle.mst_key.specs.History.{after}
use Rattle.mst_store.specs.Passes.{format_seen}
use Rattle.mst_sharded_proof.specs.Shards.{sharded_root}
use Rattle.mst_shards.specs.BlockHistory.{Whole}
use Rattle.mst_shards.specs.Sharding.{map_of}

-- the root digest of a snapshot of one block: that of the map of all shards, in the format of its
-- directory
abbrev pub root_digest : Whole → List ℕ
root_digest w =
    sharded_root (format_seen w.directory) (map_of w.sharding) w.sharding.splits

-- two snapshots have one directory: the same pairs in the same format, and one root digest
pub record HaveOneDirectory (w v : Whole) : Type 0 where
  pub format : format_seen w.directory ≡ format_seen v.directory
  pub pairs : after w.directory.seen ≡ after v.directory.seen
  pub root : root_digest w ≡ root_digest v
