-- The tries of a snapshot that waits for a block.
use Rattle.std.specs.Prelude.{◌≡◌, ℕ, zero, suc, ◌+◌}
use Rattle.mst_store.specs.Passes.{Known}
use Rattle.mst_shards.specs.BlockHistory.{Whole, IsOneBlock}
use Rattle.mst_shards.specs.Sharding.{AllStep}
use Rattle.mst_snapshots.specs.Reading.{PinsWhole}

-- So many tries in vain, one after the other: each pinned the directory and each shard, and what it
-- pinned was not of one block
abbrev pub InVain : ℕ → Whole → Whole → Type 0
InVain zero w v = v ≡ w
InVain (suc n) w v = (u : Whole) × InVain n w u × PinsWhole u v × (IsOneBlock v → ⊥)

-- after some tries in vain, one more pinned the directory and each shard
pub record PinsAfter (w v : Whole) : Type 0 where
  pub tries : ℕ
  pub last : Whole
  pub vain : InVain tries w last
  pub pins : PinsWhole last v

-- ---- steps

-- a pass made so many steps whose answers depend on other passes
abbrev pub MakesSteps : ℕ → Known → Known → Type 0
MakesSteps n p q = q.asked ≡ p.asked + n

-- so did each pass, of the shards and of the directory
abbrev pub AllMakeSteps : ℕ → Whole → Whole → Type 0
AllMakeSteps n w v = AllStep (MakesSteps n) w.sharding.shards v.sharding.shards
    × MakesSteps n w.directory v.directory
