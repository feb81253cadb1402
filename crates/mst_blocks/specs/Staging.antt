-- The shards while a block is made: what each has prepared.
use Rattle.std.specs.Prelude.{◌≡◌, ◌≤◌, ℕ, List, [], ◌∷◌, ◌++◌, map, length, Option, Result, IfSome, IsNone, OnOk, OnErr, IfErr}
use Rattle.mst_key.specs.declared.history.Edit.{Edit}
use Rattle.mst_key.specs.declared.history.Edit.TheVariants.{Put}
use Rattle.mst_key.specs.History.{after, batched}
use Rattle.mst_key.specs.Map.{IsMap}
use Rattle.mst_node.specs.Text.{root as root_of}
use Rattle.mst_store.specs.Passes.{Known, format_seen, most_rows}
use Rattle.mst_store.specs.Preparing.{Waiting, Prepares, published}
use Rattle.mst_sharded_proof.specs.Shards.{Shard, bound_text}
use Rattle.mst_shards.specs.Sharding.{AllStep}
use Rattle.mst_blocks.specs.Blocks.{last_made, MakesBlock, MakesNothing, LeavesAll, RefusedAt, RefusesParts}
use Rattle.mst_blocks.specs.declared.faults.BlockFault.{BlockFault}
use Rattle.mst_blocks.specs.declared.faults.PartFault.{PartFault}
use Rattle.mst_blocks.specs.declared.blocks.Stage.{Stage}
use Rattle.mst_blocks.specs.declared.blocks.Stage.TheVariants.{Idle, Ready, Revealed}

-- A pass has prepared edits on the version that it made last. The map then is one that a store can
-- have
pub record PreparesNext (edits : List Edit) (p : Known) (w : Waiting) : Type 0 where
  pub prepares : Prepares edits p w.known
  pub edits_are : w.edits ≡ edits
  pub next : length w.known.seen ≡ last_made p
  pub map : IsMap (batched (after w.known.seen) w.edits)
  pub few : length (batched (after w.known.seen) w.edits) ≤ most_rows

-- The shard of a pass was asked to prepare its part: without edits the pass made no step
abbrev pub Staged : {A B : Type 0} → List Edit → Known → Stage A B → Type 0
Staged [] p (Idle q) = q ≡ p
Staged [] p (Ready w) = ⊥
Staged [] p (Revealed q) = ⊥
Staged (e ∷ edits) p (Idle q) = ⊥
Staged (e ∷ edits) p (Ready w) = PreparesNext (e ∷ edits) p w
Staged (e ∷ edits) p (Revealed q) = ⊥

-- each shard was, one after the other
abbrev pub AllStaged : {A B : Type 0} → List (List Edit) → List Known → List (Stage A B) → Type 0
AllStaged [] [] [] = Unit {0}
AllStaged [] [] (t ∷ stages) = ⊥
AllStaged [] (p ∷ ps) stages = ⊥
AllStaged (part ∷ parts) [] stages = ⊥
AllStaged (part ∷ parts) (p ∷ ps) [] = ⊥
AllStaged (part ∷ parts) (p ∷ ps) (t ∷ stages) = Staged part p t × AllStaged parts ps stages

-- what its pass knows once what was prepared is published
abbrev pub published_stage : {A B : Type 0} → Stage A B → Known
published_stage (Idle q) = q
published_stage (Ready w) = published w.edits w.known
published_stage (Revealed q) = q

-- the shard while the others are published
abbrev pub revealed_stage : {A B : Type 0} → Stage A B → Stage A B
revealed_stage (Idle q) = Idle q
revealed_stage (Ready w) = Revealed (published w.edits w.known)
revealed_stage (Revealed q) = Revealed q

-- it has nothing prepared that is not published
abbrev pub IsShown : {A B : Type 0} → Stage A B → Type 0
IsShown (Idle q) = Unit {0}
IsShown (Ready w) = ⊥
IsShown (Revealed q) = Unit {0}

-- what its pass knows once what was prepared is taken back, unless it is published
abbrev pub canceled_stage : {A B : Type 0} → Stage A B → Known
canceled_stage (Idle q) = q
canceled_stage (Ready w) = w.known
canceled_stage (Revealed q) = q

-- the edit by which the directory lists the map that waits at a shard, if one does
abbrev pub listed_stage : {A B : Type 0} → Shard → Stage A B → List Edit
listed_stage s (Idle q) = []
listed_stage s (Ready w) = Put s.low
    (root_of (format_seen w.known) (batched (after w.known.seen) w.edits) ++ bound_text s.high) ∷ []
listed_stage s (Revealed q) = []

abbrev pub listed_stages : {A B : Type 0} → List Shard → List (Stage A B) → List Edit
listed_stages [] stages = []
listed_stages (s ∷ shards) [] = []
listed_stages (s ∷ shards) (t ∷ stages) = listed_stage s t ++ listed_stages shards stages

-- Each shard has prepared its part; or one was refused it, this one with this fault. The passes
-- have made nothing so far
pub record IsStaged {A B : Type 0} (stopped : Option (ℕ × PartFault)) (parts : List (List Edit))
    (ps : List Known) (stages : List (Stage A B)) : Type 0 where
  pub all : IsNone stopped → AllStaged parts ps stages
  pub refused : IfSome stopped
      (λ s. RefusedAt s.0 s.1 parts ps (map canceled_stage stages))
  pub left : AllStep MakesNothing ps (map canceled_stage stages)

-- What came of the block: it is made whole, or nothing of it is, for a reason
pub record Concludes {D : Type 0} (splits : List (List ℕ)) (parts : List (List Edit))
    (ps qs : List Known) (d e : Known) (told : Result D BlockFault) : Type 0 where
  pub ok : OnOk told (MakesBlock splits parts ps qs d e)
  pub err : OnErr told (LeavesAll ps qs d e)
  pub why : IfErr told (λ fault. RefusesParts fault splits parts ps qs d e)
