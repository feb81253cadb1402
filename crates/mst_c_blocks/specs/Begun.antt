-- Blocks that were begun, their parts, and what becomes of both.
use Rattle.std.specs.Prelude.{◌≡◌, ◌<◌, ℕ, List, length, Bool, true, false, Option, Some, None, Result, Ok, Err}
use Rattle.mst_key.specs.declared.history.Edit.{Edit}
use Rattle.mst_store.specs.Passes.{Known}
use Rattle.mst_shards.specs.BlockHistory.{Blocks, Whole}
use Rattle.mst_blocks.specs.Blocks.{LeavesAll, RefusesPart}
use Rattle.mst_parts.specs.Origins.{Origin, Begun, IsOf}
use Rattle.mst_blocks.specs.declared.faults.BlockFault.{BlockFault}
use Rattle.mst_blocks.specs.Writing.{block_map, RefusesBlock, HasMade}
use Rattle.mst_c_blocks.specs.declared.begun.PartRefusal.{PartRefusal}
use Rattle.mst_c_blocks.specs.declared.begun.PartRefusal.TheVariants as part_refusal
use Rattle.mst_c_blocks.specs.declared.begun.CommitRefusal.{CommitRefusal}
use Rattle.mst_c_blocks.specs.declared.begun.CommitRefusal.TheVariants as commit_refusal
use Rattle.mst_c_blocks.specs.declared.role_box.Role.{Role}
use Rattle.mst_c_blocks.specs.declared.role_box.Role.TheVariants.{Away, Writer, Reader, Snapshot, Block, Part}
use Rattle.mst_c_blocks.specs.Making.{MakesBlock}

-- ---- beginning

-- how many shards there are, if this is the writer
abbrev pub shards_to_begin : Role → Option ℕ
shards_to_begin Away = None
shards_to_begin (Writer w) = Some (length w.sharding.shards)
shards_to_begin (Reader r) = None
shards_to_begin (Snapshot s) = None
shards_to_begin (Block b) = None
shards_to_begin (Part p) = None

-- a block of these edits, which a writer has begun
pub record IsBegun (edits : List Edit) (w : Whole) (b : Begun) : Type 0 where
  pub writer : b.writer ≡ w
  pub of : IsOf edits b

-- the writer begins a block of these edits, which has these parts
abbrev pub Begins : List Edit → Role → List Origin → Role → Type 0
Begins edits Away parts now = ⊥
Begins edits (Writer w) parts now =
    (b : Begun) × (now ≡ Block b) × IsBegun edits w b × (parts ≡ b.parts)
Begins edits (Reader r) parts now = ⊥
Begins edits (Snapshot s) parts now = ⊥
Begins edits (Block b) parts now = ⊥
Begins edits (Part p) parts now = ⊥

-- ---- preparing

-- what comes of a part: it is prepared, or there was nothing to prepare; or its shard was refused
-- its edits; or another call has it, or its block was made or taken back
abbrev pub PreparesPart : Origin → Result (Unit {0}) PartRefusal → Type 0
PreparesPart o (Ok told) = Unit {0}
PreparesPart o (Err part_refusal.NoPart) = Unit {0}
PreparesPart o (Err part_refusal.Busy) = Unit {0}
PreparesPart o (Err (part_refusal.Refused fault)) =
    (0 < length o.edits) × ((q : Known) × RefusesPart fault o.edits o.pass q)

-- what is no part is not prepared
abbrev pub NoPartOf : Result (Unit {0}) PartRefusal → Type 0
NoPartOf (Ok told) = ⊥
NoPartOf (Err part_refusal.NoPart) = Unit {0}
NoPartOf (Err part_refusal.Busy) = ⊥
NoPartOf (Err (part_refusal.Refused fault)) = ⊥

-- Whatever comes of it, the part is the same: it has the pass and the edits with which it was begun
abbrev pub Prepares : Role → Result (Unit {0}) PartRefusal → Role → Type 0
Prepares Away prepared now = ⊥
Prepares (Writer w) prepared now = (now ≡ Writer w) × NoPartOf prepared
Prepares (Reader r) prepared now = (now ≡ Reader r) × NoPartOf prepared
Prepares (Snapshot s) prepared now = (now ≡ Snapshot s) × NoPartOf prepared
Prepares (Block b) prepared now = (now ≡ Block b) × NoPartOf prepared
Prepares (Part None) prepared now = (now ≡ Part None) × NoPartOf prepared
Prepares (Part (Some o)) prepared now = (now ≡ Part (Some o)) × PreparesPart o prepared

-- ---- the end

-- the block is made as the writer makes one of the same edits
abbrev pub CommitsBlock : Begun → ℕ → Whole → Type 0
CommitsBlock b n v = (edits : List Edit) → IsOf edits b → MakesBlock edits n b.writer v

-- or it is refused as one of the same edits is
pub record StopsBlock (fault : BlockFault) (b : Begun) (v : Whole) : Type 0 where
  pub refuses : (edits : List Edit) → IsOf edits b → RefusesBlock fault edits b.writer v
  pub same : (blocks : Blocks) → HasMade blocks b.writer → HasMade blocks v

-- what is no block that was begun makes none
abbrev pub NoBlockIn : Result ℕ CommitRefusal → Type 0
NoBlockIn (Ok n) = ⊥
NoBlockIn (Err commit_refusal.NoBlock) = Unit {0}
NoBlockIn (Err commit_refusal.Busy) = ⊥
NoBlockIn (Err (commit_refusal.Block fault)) = ⊥

-- or it stays, since a part of it is just being prepared
abbrev pub Commits : Role → Result ℕ CommitRefusal → Role → Type 0
Commits Away made now = ⊥
Commits (Block b) (Ok n) now = (v : Whole) × (now ≡ Writer v) × CommitsBlock b n v
Commits (Block b) (Err (commit_refusal.Block fault)) now =
    (v : Whole) × (now ≡ Writer v) × StopsBlock fault b v
Commits (Block b) (Err commit_refusal.Busy) now = now ≡ Block b
Commits (Block b) (Err commit_refusal.NoBlock) now = ⊥
Commits (Writer w) made now = (now ≡ Writer w) × NoBlockIn made
Commits (Reader r) made now = (now ≡ Reader r) × NoBlockIn made
Commits (Snapshot s) made now = (now ≡ Snapshot s) × NoBlockIn made
Commits (Part p) made now = (now ≡ Part p) × NoBlockIn made

-- nothing has changed: the writer has its map and its blocks
pub record CancelsBlock (w v : Whole) : Type 0 where
  pub splits : v.sharding.splits ≡ w.sharding.splits
  pub left : LeavesAll w.sharding.shards v.sharding.shards w.directory v.directory
  pub map : block_map v ≡ block_map w
  pub same : (blocks : Blocks) → HasMade blocks w → HasMade blocks v

-- the block is taken back, or it stays, since a part of it is just being prepared
abbrev pub Cancels : Role → Option Bool → Role → Type 0
Cancels Away taken now = ⊥
Cancels (Block b) (Some true) now = (v : Whole) × (now ≡ Writer v) × CancelsBlock b.writer v
Cancels (Block b) (Some false) now = now ≡ Block b
Cancels (Block b) None now = ⊥
Cancels (Writer w) None now = now ≡ Writer w
Cancels (Writer w) (Some taken) now = ⊥
Cancels (Reader r) None now = now ≡ Reader r
Cancels (Reader r) (Some taken) now = ⊥
Cancels (Snapshot s) None now = now ≡ Snapshot s
Cancels (Snapshot s) (Some taken) now = ⊥
Cancels (Part p) None now = now ≡ Part p
Cancels (Part p) (Some taken) now = ⊥
