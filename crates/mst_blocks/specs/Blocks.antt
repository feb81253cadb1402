-- A block: edits of all shards, made as one change of the whole map, or not at all.
use Rattle.std.specs.Prelude.{◌≡◌, ◌≢◌, ◌≤◌, ◌<◌, ◌+◌, ℕ, zero, suc, List, [], ◌∷◌, ◌++◌, length, Option, Some, None}
use Rattle.mst_key.specs.declared.history.Change.TheVariants.{Batch}
use Rattle.mst_key.specs.declared.history.Edit.{Edit}
use Rattle.mst_key.specs.History.{IsPrefix, after, done}
use Rattle.mst_key.specs.Map.{IsMap}
use Rattle.mst_store.specs.Passes.{Known, IsSamePass, Looks, Wrote, made_by, most_rows}
use Rattle.mst_batching.specs.Applying.{RefusesBatch}
use Rattle.mst_sharded_proof.specs.Shards.{Shard, shards as shards_at}
use Rattle.mst_shards.specs.Parts.{edits_at}
use Rattle.mst_shards.specs.Entries.{entry_of}
use Rattle.mst_shards.specs.Sharding.{AllStep}
use Rattle.mst_blocks.specs.declared.faults.BlockFault.{BlockFault}
use Rattle.mst_blocks.specs.declared.faults.BlockFault.TheVariants.{Memory, Shard as OfShard, Directory}
use Rattle.mst_blocks.specs.declared.faults.PartFault.{PartFault}
use Rattle.mst_blocks.specs.declared.faults.PartFault.TheVariants.{Refused, Overtaken}

-- ---- the parts of a block

-- the edits of this many shards from a place on, those of each in their order
abbrev pub parts_from : List (List ℕ) → List Edit → ℕ → ℕ → List (List Edit)
parts_from splits edits i zero = []
parts_from splits edits i (suc n) = edits_at splits edits i ∷ parts_from splits edits (suc i) n

-- the edits of each shard
abbrev pub parts_of : List (List ℕ) → List Edit → List (List Edit)
parts_of splits edits = parts_from splits edits 0 (suc (length splits))

-- ---- the directory

-- the edit by which it lists what the pass of a shard has now seen, if the shard has edits
abbrev pub listed_part : Shard → List Edit → Known → List Edit
listed_part s [] q = []
listed_part s (e ∷ edits) q = entry_of s q ∷ []

abbrev pub listed_parts : List Shard → List (List Edit) → List Known → List Edit
listed_parts [] parts qs = []
listed_parts (s ∷ shards) [] qs = []
listed_parts (s ∷ shards) (part ∷ parts) [] = []
listed_parts (s ∷ shards) (part ∷ parts) (q ∷ qs) =
    listed_part s part q ++ listed_parts shards parts qs

-- ---- a block is made

-- the version that was made last, or 0 if none was
abbrev pub version_made : Option ℕ → ℕ
version_made None = 0
version_made (Some n) = n

-- the version that a pass made last
abbrev pub last_made : Known → ℕ
last_made p = version_made p.made

-- A pass made edits as the version right after the one that it made last. The map then is one that
-- a store can have
pub record AddsBatch (edits : List Edit) (p q : Known) : Type 0 where
  pub wrote : Wrote (made_by p (Batch edits)) p done q
  pub next : length q.seen ≡ last_made p + 1
  pub map : IsMap (after q.seen)
  pub few : length (after q.seen) ≤ most_rows

-- the pass of a shard made its part so; without edits it made no step
abbrev pub AddsPart : List Edit → Known → Known → Type 0
AddsPart [] p q = q ≡ p
AddsPart (e ∷ edits) p q = AddsBatch (e ∷ edits) p q

-- each shard did
abbrev pub AllAdd : List (List Edit) → List Known → List Known → Type 0
AllAdd [] [] [] = Unit {0}
AllAdd [] [] (q ∷ qs) = ⊥
AllAdd [] (p ∷ ps) qs = ⊥
AllAdd (part ∷ parts) [] qs = ⊥
AllAdd (part ∷ parts) (p ∷ ps) [] = ⊥
AllAdd (part ∷ parts) (p ∷ ps) (q ∷ qs) = AddsPart part p q × AllAdd parts ps qs

-- Each shard made its part as one version, and the directory, as one version, lists of each shard
-- with edits its new root digest
pub record MakesBlock (splits : List (List ℕ)) (parts : List (List Edit)) (ps qs : List Known)
    (d e : Known) : Type 0 where
  pub shards : AllAdd parts ps qs
  pub directory : AddsBatch (listed_parts (shards_at splits) parts qs) d e

-- ---- a block is refused

-- a pass has made nothing; it may have seen more
pub record MakesNothing (p q : Known) : Type 0 where
  pub same : IsSamePass p q
  pub later : IsPrefix p.seen q.seen
  pub mine : q.mine ≡ p.mine
  pub made : q.made ≡ p.made

-- no pass has made anything
pub record LeavesAll (ps qs : List Known) (d e : Known) : Type 0 where
  pub shards : AllStep MakesNothing ps qs
  pub directory : MakesNothing d e

-- Why a pass was refused edits: as a batch is refused; or the version that it found is not the one
-- that it made last
abbrev pub RefusesPart : PartFault → List Edit → Known → Known → Type 0
RefusesPart (Refused fault) edits p q = RefusesBatch fault edits p q
RefusesPart Overtaken edits p q = Looks p q × (length q.seen ≢ last_made p)

-- the shard at this place has edits, and its pass was refused them
abbrev pub RefusedAt : ℕ → PartFault → List (List Edit) → List Known → List Known → Type 0
RefusedAt i fault [] ps qs = ⊥
RefusedAt i fault (part ∷ parts) [] qs = ⊥
RefusedAt i fault (part ∷ parts) (p ∷ ps) [] = ⊥
RefusedAt zero fault (part ∷ parts) (p ∷ ps) (q ∷ qs) =
    (0 < length part) × RefusesPart fault part p q
RefusedAt (suc i) fault (part ∷ parts) (p ∷ ps) (q ∷ qs) = RefusedAt i fault parts ps qs

-- the directory was refused the edits that would list the shards, had each made its part
pub record RefusesListing (fault : PartFault) (splits : List (List ℕ)) (parts : List (List Edit))
    (ps : List Known) (d e : Known) : Type 0 where
  pub prepared : List Known
  pub shards : AllAdd parts ps prepared
  pub directory : RefusesPart fault (listed_parts (shards_at splits) parts prepared) d e

-- Why a block was refused: a growth of its lists was; a shard was refused its part; or the
-- directory was refused the listing
abbrev pub RefusesParts : BlockFault → List (List ℕ) → List (List Edit) → List Known → List Known
    → Known → Known → Type 0
RefusesParts (Memory refused) splits parts ps qs d e = Unit {0}
RefusesParts (OfShard i fault) splits parts ps qs d e = RefusedAt i fault parts ps qs
RefusesParts (Directory fault) splits parts ps qs d e = RefusesListing fault splits parts ps d e
