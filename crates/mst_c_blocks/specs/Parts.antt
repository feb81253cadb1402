-- What C is told of blocks that are made in parts.
use Rattle.std.specs.Prelude.{◌≡◌, ◌≢◌, ◌<◌, ℕ, ℤ, pos, List, length, get_or, Bool, true, false, Option, Some, None, Result, Ok, Err}
use Rattle.mst_key.specs.declared.history.Edit.{Edit}
use Rattle.mst_parts.specs.Origins.{Origin}
use Rattle.mst_c.specs.Codes.{closed, wrong_state, memory, bad_shape, busy}
use Rattle.mst_c.specs.Batches.{fault_code}
use Rattle.mst_c.specs.declared.packing.BadEdit.{BadEdit}
use Rattle.mst_c.specs.Batches.{edits_in}
use Rattle.mst_c_blocks.specs.declared.begun.PartRefusal.{PartRefusal}
use Rattle.mst_c_blocks.specs.declared.begun.PartRefusal.TheVariants.{NoPart, Busy, Refused}
use Rattle.mst_c_blocks.specs.declared.begun.CommitRefusal.{CommitRefusal}
use Rattle.mst_c_blocks.specs.declared.begun.CommitRefusal.TheVariants as commit_refusal
use Rattle.mst_c_blocks.specs.declared.hand.PaddedBlocksHand.{PaddedBlocksHand}
use Rattle.mst_c_blocks.specs.declared.making.BlockRefusal.TheVariants as block_refusal
use Rattle.mst_c_blocks.specs.declared.role_box.Role.{Role}
use Rattle.mst_c_blocks.specs.declared.role_box.Role.TheVariants.{Part}
use Rattle.mst_c_blocks.specs.Begun.{shards_to_begin, Begins, Prepares, Commits, Cancels}
use Rattle.mst_c_blocks.specs.Holding.{shards_in}
use Rattle.mst_c_blocks.specs.Making.{part_code, made_code, refused_shard}
use Rattle.mst_c_blocks.specs.Opened.{NoneHeld}

-- ---- hands of parts

-- a hand waits for a part
abbrev pub WaitsIn : Option Role → Type 0
WaitsIn held = held ≡ Some (Part None)

-- so do all of them
abbrev pub AllWait : List PaddedBlocksHand → Type 0
AllWait hands =
    (k : ℕ) (h : PaddedBlocksHand) → k < length hands → WaitsIn (get_or hands k h).hand.held

-- each part is in the hand with the number of its shard
pub record AreHanded (parts : List Origin) (hands : List PaddedBlocksHand) : Type 0 where
  pub count : length parts ≡ length hands
  pub each : (k : ℕ) (o : Origin) (h : PaddedBlocksHand) → k < length hands
      → (get_or hands k h).hand.held ≡ Some (Part (Some (get_or parts k o)))

-- ---- beginning

-- the block is begun, and its parts are handed out; or nothing has changed, and no hand has a part
abbrev pub BegunBy : Bool → List Edit → Role → Role → List PaddedBlocksHand → Type 0
BegunBy true edits r t hands =
    (parts : List Origin) × Begins edits r parts t × AreHanded parts hands
BegunBy false edits r t hands = (t ≡ r) × NoneHeld hands

abbrev pub begin_code : Bool → ℤ
begin_code true = pos 0
begin_code false = memory

-- the place of a bad edit is told before the writer does anything; the hands of the parts are
-- closed before that
abbrev pub SpeltBegin : Result (List Edit) BadEdit → Role → ℕ → ℤ → ℕ → Role
    → List PaddedBlocksHand → Type 0
SpeltBegin (Err bad) r place code place' t parts' =
    (code ≡ fault_code bad.fault) × (place' ≡ bad.place) × (t ≡ r) × NoneHeld parts'
SpeltBegin (Ok edits) r place code place' t parts' =
    (done : Bool) × BegunBy done edits r t parts' × (code ≡ begin_code done) × (place' ≡ place)

-- a call that came to nothing: all is as it was
abbrev pub NoneBegun : ℤ → Option Role → ℕ → List PaddedBlocksHand → ℤ → ℕ → Option Role
    → List PaddedBlocksHand → Type 0
NoneBegun wanted hand place parts code place' hand' parts' =
    (code ≡ wanted) × (place' ≡ place) × (hand' ≡ hand) × (parts' ≡ parts)

-- -8 for what is no writer, -10 if there is not a hand for each shard
abbrev pub ShapedBegin : Option ℕ → Role → List ℕ → ℕ → List PaddedBlocksHand → ℤ → ℕ
    → Option Role → List PaddedBlocksHand → Type 0
ShapedBegin None r bytes place parts code place' hand' parts' =
    NoneBegun wrong_state (Some r) place parts code place' hand' parts'
ShapedBegin (Some shards) r bytes place parts code place' hand' parts' =
    (length parts ≢ shards → NoneBegun bad_shape (Some r) place parts code place' hand' parts')
    × (length parts ≡ shards → (t : Role) × (hand' ≡ Some t)
    × SpeltBegin (edits_in bytes) r place code place' t parts')

-- -7 for an empty hand
abbrev pub BeginTold : Option Role → List ℕ → ℕ → List PaddedBlocksHand → ℤ → ℕ → Option Role
    → List PaddedBlocksHand → Type 0
BeginTold None bytes place parts code place' hand' parts' =
    NoneBegun closed None place parts code place' hand' parts'
BeginTold (Some r) bytes place parts code place' hand' parts' =
    ShapedBegin (shards_to_begin r) r bytes place parts code place' hand' parts'

-- ---- preparing

abbrev pub prepare_code : Result (Unit {0}) PartRefusal → ℤ
prepare_code (Ok done) = pos 0
prepare_code (Err NoPart) = wrong_state
prepare_code (Err Busy) = busy
prepare_code (Err (Refused fault)) = part_code fault

-- -7 for an empty hand, otherwise what came of the part
abbrev pub PrepareTold : Option Role → ℤ → Option Role → Type 0
PrepareTold None code hand = (code ≡ closed) × (hand ≡ None)
PrepareTold (Some r) code hand =
    (a : Result (Unit {0}) PartRefusal) × (t : Role) × (hand ≡ Some t) × Prepares r a t
    × (code ≡ prepare_code a)

-- ---- the end

abbrev pub commit_code : Result ℕ CommitRefusal → ℤ
commit_code (Ok n) = pos 0
commit_code (Err commit_refusal.NoBlock) = wrong_state
commit_code (Err commit_refusal.Busy) = busy
commit_code (Err (commit_refusal.Block fault)) = made_code (Err (block_refusal.Block fault))

-- the number of a block that was made
abbrev pub committed_number : ℕ → Result ℕ CommitRefusal → ℕ
committed_number number (Ok n) = n
committed_number number (Err why) = number

-- of a block that was refused the shard that refused its part, as of one that was not begun
abbrev pub committed_shard : ℕ → ℕ → Result ℕ CommitRefusal → ℕ
committed_shard shards shard (Ok n) = shard
committed_shard shards shard (Err commit_refusal.NoBlock) = shard
committed_shard shards shard (Err commit_refusal.Busy) = shard
committed_shard shards shard (Err (commit_refusal.Block fault)) =
    refused_shard shards shard (Err (block_refusal.Block fault))

-- -7 for an empty hand, otherwise what became of the block
abbrev pub CommitTold : Option Role → ℕ → ℕ → ℤ → ℕ → ℕ → Option Role → Type 0
CommitTold None shard number code shard' number' hand =
    (code ≡ closed) × (shard' ≡ shard) × (number' ≡ number) × (hand ≡ None)
CommitTold (Some r) shard number code shard' number' hand =
    (a : Result ℕ CommitRefusal) × (t : Role) × (hand ≡ Some t) × Commits r a t
    × (code ≡ commit_code a) × (shard' ≡ committed_shard (shards_in t) shard a)
    × (number' ≡ committed_number number a)

abbrev pub cancel_code : Option Bool → ℤ
cancel_code (Some true) = pos 0
cancel_code (Some false) = busy
cancel_code None = wrong_state

-- -7 for an empty hand, otherwise whether the block was taken back
abbrev pub CancelTold : Option Role → ℤ → Option Role → Type 0
CancelTold None code hand = (code ≡ closed) × (hand ≡ None)
CancelTold (Some r) code hand =
    (a : Option Bool) × (t : Role) × (hand ≡ Some t) × Cancels r a t × (code ≡ cancel_code a)
