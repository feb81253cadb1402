-- What a reader of a sharded map keeps, and what its snapshots are.
use Rattle.std.specs.Prelude.{◌≡◌, ℕ, ◌<◌, List, [], map, length, slice_index_or}
use Rattle.mst_key.specs.declared.format.Format.TheVariants.{One}
use Rattle.mst_key.specs.History.{IsPrefix}
use Rattle.mst_store.specs.Passes.{Known, new_pass}
use Rattle.mst_shards.specs.BlockHistory.{Whole, IsOneBlock}
use Rattle.mst_shards.specs.Laid.{AreOf}
use Rattle.mst_shards.specs.Opening.{Shards}
use Rattle.mst_shards.specs.Sharding.{IsSharding, AllStep, PinsNow, PinsAll}

-- what is read where there is no pass
pub no_pass : Known
no_pass = new_pass (record {
  table = record {
    words = 0;
    slots = 0;
    views_name = 0;
    atom = 0;
    block = 0;
    offset = 0;
    slot_names = [];
  };
  rows = 0;
  passes = 0;
  format = One;
}) 0

-- the pass at a place
abbrev pub pass_at : List Known → ℕ → Known
pass_at ps i = slice_index_or ps i no_pass

-- ---- steps

-- a pass of the same store has now seen a history that begins with all that it had seen
abbrev pub IsLater : Known → Known → Type 0
IsLater p q = (q.store ≡ p.store) × IsPrefix p.seen q.seen

-- so has each pass
pub record SeesOn (w v : Whole) : Type 0 where
  pub splits : v.sharding.splits ≡ w.sharding.splits
  pub shards : AllStep IsLater w.sharding.shards v.sharding.shards
  pub directory : IsLater w.directory v.directory

-- the directory's pass pinned its current version, and each pass that of its shard
pub record PinsWhole (w v : Whole) : Type 0 where
  pub shards : PinsAll w.sharding v.sharding
  pub directory : PinsNow w.directory v.directory

-- ---- versions

-- the numbers of the versions that passes have seen last
abbrev pub versions_of : List Known → List ℕ
versions_of ps = map (λ p. length p.seen) ps

-- the numbers of the versions of the shards, and of that of the directory
pub record HasVersions (versions : List ℕ) (number : ℕ) (w : Whole) : Type 0 where
  pub shards : versions ≡ versions_of w.sharding.shards
  pub directory : number ≡ length w.directory.seen

-- the passes have seen a block that has these versions, and perhaps more
pub record HasSeenBlock (versions : List ℕ) (number : ℕ) (w : Whole) : Type 0 where
  pub block : Whole
  pub one : IsOneBlock block
  pub seen : SeesOn block w
  pub versions_are : HasVersions versions number block

-- ---- what is kept

-- What a reader keeps: passes of the map's stores, and the versions of the block of its last
-- snapshot. If it has had no snapshot, it has no versions, and 0 for that of the directory
pub record IsReader (s : Shards) (versions : List ℕ) (number : ℕ) (w : Whole) : Type 0 where
  pub sharding_is : IsSharding w.sharding
  pub own : AreOf s.stores w.sharding.shards
  pub directory : w.directory.store ≡ s.directory
  pub begins : number ≡ 0 → versions ≡ []
  pub last : 0 < number → HasSeenBlock versions number w

-- what a snapshot keeps: pins of the map's stores that are of one block, and its versions
pub record IsSnapshot (s : Shards) (versions : List ℕ) (number : ℕ) (w : Whole) : Type 0 where
  pub one : IsOneBlock w
  pub own : AreOf s.stores w.sharding.shards
  pub directory : w.directory.store ≡ s.directory
  pub versions_are : HasVersions versions number w
