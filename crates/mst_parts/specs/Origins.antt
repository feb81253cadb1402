-- The parts of a block that was begun: what each was begun with, and how far it may be.
use Rattle.std.specs.Prelude.{◌≡◌, ◌<◌, ℕ, List, map, length, get_or}
use Rattle.std.specs.List.{AllByRecursion}
use Rattle.mst_key.specs.declared.history.Edit.{Edit}
use Rattle.mst_key.specs.History.{IsSmall}
use Rattle.mst_store.specs.Passes.{Known, StoreId}
use Rattle.mst_shards.specs.BlockHistory.{Whole, whole}
use Rattle.mst_shards.specs.Opening.{Shards}
use Rattle.mst_blocks.specs.Blocks.{parts_of, RefusesPart}
use Rattle.mst_blocks.specs.Staging.{PreparesNext}
use Rattle.mst_blocks.specs.Writing.{IsWriterOf}
use Rattle.mst_parts.specs.declared.part.LaidStage.{LaidStage}
use Rattle.mst_parts.specs.declared.part.LaidStage.TheVariants.{Away, Waits, Ready, Stopped}

-- ---- one part

-- what a part was begun with: what the pass of its shard knew then, and the edits
pub record Origin : Type 0 where
  pub pass : Known
  pub edits : List Edit

-- its edits wait still, or they are prepared, or its shard was refused them
abbrev pub ComesFrom : {A : Type 0} → Origin → LaidStage A → Type 0
ComesFrom o Away = ⊥
ComesFrom o (Waits q edits) = (q ≡ o.pass) × (edits ≡ o.edits)
ComesFrom o (Ready w) = (0 < length o.edits) × PreparesNext o.edits o.pass w
ComesFrom o (Stopped fault q) = (0 < length o.edits) × RefusesPart fault o.edits o.pass q

-- its pass is of this store
abbrev pub HasPassOf : {A : Type 0} → StoreId → LaidStage A → Type 0
HasPassOf s Away = ⊥
HasPassOf s (Waits q edits) = q.store ≡ s
HasPassOf s (Ready w) = w.known.store ≡ s
HasPassOf s (Stopped fault q) = q.store ≡ s

-- a store stands at this place
abbrev pub IsStoreAt : List StoreId → ℕ → StoreId → Type 0
IsStoreAt stores i s = (i < length stores) × (s ≡ get_or stores i s)

-- ---- all parts

abbrev pub passes_of : List Origin → List Known
passes_of parts = map (λ o. o.pass) parts

abbrev pub edits_of : List Origin → List (List Edit)
edits_of parts = map (λ o. o.edits) parts

-- a block that was begun: its writer, as it was, and the parts, one for each shard
pub record Begun : Type 0 where
  pub writer : Whole
  pub parts : List Origin

abbrev pub begun : List (List ℕ) → List Origin → Known → Begun
begun splits parts d = record { writer = whole splits (passes_of parts) d; parts = parts }

-- it is a block of these edits
pub record IsOf (edits : List Edit) (b : Begun) : Type 0 where
  pub parts : edits_of b.parts ≡ parts_of b.writer.sharding.splits edits
  pub small : AllByRecursion IsSmall edits

-- a block of a map's writer
pub record IsBlockOf (s : Shards) (b : Begun) : Type 0 where
  pub own : IsWriterOf s b.writer
  pub edits : List Edit
  pub of : IsOf edits b
