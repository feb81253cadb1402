-- The making of blocks, and what C is told of it.
use Rattle.std.specs.Prelude.{◌≡◌, ◌<◌, ℕ, ℤ, pos, List, [], ◌∷◌, ◌++◌, length, Option, Some, None, Result, Ok, Err}
use Rattle.mst_key.specs.declared.history.Edit.{Edit}
use Rattle.mst_shards.specs.BlockHistory.{Blocks, Whole, IsNumber}
use Rattle.mst_blocks.specs.Writing.{last_block, AddsBlock, RefusesBlock, HasMade}
use Rattle.mst_blocks.specs.declared.faults.PartFault.{PartFault}
use Rattle.mst_blocks.specs.declared.faults.PartFault.TheVariants.{Refused, Overtaken}
use Rattle.mst_blocks.specs.declared.faults.BlockFault.TheVariants as variant
use Rattle.mst_c.specs.Codes.{closed, wrong_state, memory}
use Rattle.mst_c.specs.Batches.{edits_in, fault_code, apply_fault_code}
use Rattle.mst_c.specs.declared.packing.BadEdit.{BadEdit}
use Rattle.mst_c_blocks.specs.Codes.{overtaken}
use Rattle.mst_c_blocks.specs.declared.making.BlockRefusal.{BlockRefusal}
use Rattle.mst_c_blocks.specs.declared.making.BlockRefusal.TheVariants.{NoWriter, Memory, Block}
use Rattle.mst_c_blocks.specs.declared.role_box.Role.{Role}
use Rattle.mst_c_blocks.specs.declared.role_box.Role.TheVariants.{Away, Writer, Reader, Snapshot}
use Rattle.mst_c_blocks.specs.declared.role_box.Role.TheVariants as role
use Rattle.mst_c_blocks.specs.Holding.{shards_in}

-- The writer makes the edits of all shards as its next block, which has this number: if it has made
-- some blocks so far, it has now made these and this one
pub record MakesBlock (edits : List Edit) (number : ℕ) (w v : Whole) : Type 0 where
  pub adds : AddsBlock edits w v
  pub number_is : IsNumber number (last_block v)
  pub more : (blocks : Blocks) → HasMade blocks w → HasMade (blocks ++ edits ∷ []) v

-- Or the block is refused: nothing is made, and the last block is the one that it was. A growth of
-- the list of the edits may be refused before; then the writer has done nothing. What is no writer
-- makes none
abbrev pub Makes : List Edit → Role → Result ℕ BlockRefusal → Role → Type 0
Makes edits Away made now = ⊥
Makes edits (Writer w) (Ok n) now = (v : Whole) × (now ≡ Writer v) × MakesBlock edits n w v
Makes edits (Writer w) (Err (Block fault)) now =
    (v : Whole) × (now ≡ Writer v) × RefusesBlock fault edits w v
    × ((blocks : Blocks) → HasMade blocks w → HasMade blocks v)
Makes edits (Writer w) (Err (Memory refused)) now = (now ≡ Writer w) × (0 < length edits)
Makes edits (Writer w) (Err NoWriter) now = ⊥
Makes edits (Reader r) (Err NoWriter) now = now ≡ Reader r
Makes edits (Reader r) (Err (Block fault)) now = ⊥
Makes edits (Reader r) (Err (Memory refused)) now = ⊥
Makes edits (Reader r) (Ok n) now = ⊥
Makes edits (Snapshot s) (Err NoWriter) now = now ≡ Snapshot s
Makes edits (Snapshot s) (Err (Block fault)) now = ⊥
Makes edits (Snapshot s) (Err (Memory refused)) now = ⊥
Makes edits (Snapshot s) (Ok n) now = ⊥
Makes edits (role.Block b) (Err NoWriter) now = now ≡ role.Block b
Makes edits (role.Block b) (Err (Block fault)) now = ⊥
Makes edits (role.Block b) (Err (Memory refused)) now = ⊥
Makes edits (role.Block b) (Ok n) now = ⊥
Makes edits (role.Part p) (Err NoWriter) now = now ≡ role.Part p
Makes edits (role.Part p) (Err (Block fault)) now = ⊥
Makes edits (role.Part p) (Err (Memory refused)) now = ⊥
Makes edits (role.Part p) (Ok n) now = ⊥

-- why a shard was refused its part of a block, or the directory its edits
abbrev pub part_code : PartFault → ℤ
part_code (Refused why) = apply_fault_code why
part_code Overtaken = overtaken

abbrev pub made_code : Result ℕ BlockRefusal → ℤ
made_code (Ok n) = pos 0
made_code (Err NoWriter) = wrong_state
made_code (Err (Memory refused)) = memory
made_code (Err (Block (variant.Memory refused))) = memory
made_code (Err (Block (variant.Shard stop why))) = part_code why
made_code (Err (Block (variant.Directory why))) = part_code why

-- the number of a block that was made
abbrev pub made_number : ℕ → Result ℕ BlockRefusal → ℕ
made_number number (Ok n) = n
made_number number (Err why) = number

-- of a block that was refused the shard that refused its part; the number of the shards, which is
-- that of none, where it was the directory or a list
abbrev pub refused_shard : ℕ → ℕ → Result ℕ BlockRefusal → ℕ
refused_shard shards shard (Ok n) = shard
refused_shard shards shard (Err NoWriter) = shard
refused_shard shards shard (Err (Memory refused)) = shards
refused_shard shards shard (Err (Block (variant.Memory refused))) = shards
refused_shard shards shard (Err (Block (variant.Shard stop why))) = stop
refused_shard shards shard (Err (Block (variant.Directory why))) = shards

-- the place of a bad edit is told before the writer does anything; otherwise what the writer did
abbrev pub SpeltTold : Result (List Edit) BadEdit → Role → ℕ → ℕ → ℕ → ℤ → ℕ → ℕ → ℕ
    → Option Role → Type 0
SpeltTold (Err bad) r place shard number code place' shard' number' hand =
    (code ≡ fault_code bad.fault) × (place' ≡ bad.place) × (shard' ≡ shard) × (number' ≡ number)
    × (hand ≡ Some r)
SpeltTold (Ok edits) r place shard number code place' shard' number' hand =
    (made : Result ℕ BlockRefusal) × (t : Role) × (hand ≡ Some t) × Makes edits r made t
    × (code ≡ made_code made) × (place' ≡ place)
    × (shard' ≡ refused_shard (shards_in r) shard made) × (number' ≡ made_number number made)

-- -7 for an empty hand, otherwise by what the buffer spells
abbrev pub ApplyTold : Option Role → List ℕ → ℕ → ℕ → ℕ → ℤ → ℕ → ℕ → ℕ → Option Role → Type 0
ApplyTold None bytes place shard number code place' shard' number' hand =
    (code ≡ closed) × (place' ≡ place) × (shard' ≡ shard) × (number' ≡ number) × (hand ≡ None)
ApplyTold (Some r) bytes place shard number code place' shard' number' hand =
    SpeltTold (edits_in bytes) r place shard number code place' shard' number' hand
