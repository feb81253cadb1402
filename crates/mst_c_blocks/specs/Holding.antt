-- What the calls of a hand's writer, reader or snapshot do. A block that was begun and a part of
-- one answer none of them.
use Rattle.std.specs.Prelude.{◌≡◌, ◌≢◌, ℕ, ◌+◌, List, length, Bool, true, false, Option, Some, None, Result, Ok, Err}
use Rattle.mst_key.specs.Map.{map_get}
use Rattle.mst_sharded_proof.specs.Theorem.{HasShardedRoot}
use Rattle.mst_store.specs.Passes.{Answers, Looks, format_seen}
use Rattle.mst_shards.specs.BlockHistory.{Blocks, Whole, IsNumber, IsOneBlock}
use Rattle.mst_shards.specs.Directory.{OfClean}
use Rattle.mst_shards.specs.Sharding.{Routes, map_of}
use Rattle.mst_snapshots.specs.Reading.{PinsWhole}
use Rattle.mst_blocks.specs.Blocks.{last_made, LeavesAll}
use Rattle.mst_blocks.specs.Writing.{last_block, block_map, IsWriter, HasMade}
use Rattle.mst_c_blocks.specs.declared.role_box.Role.{Role}
use Rattle.mst_c_blocks.specs.declared.role_box.Role.TheVariants.{Away, Writer, Reader, Snapshot, Block, Part}
use Rattle.mst_c_blocks.specs.declared.asking.ReadRefusal.{ReadRefusal}
use Rattle.mst_c_blocks.specs.declared.asking.ReadRefusal.TheVariants.{NoSnapshot, Memory}
use Rattle.mst_c_blocks.specs.declared.asking.GetRefusal.{GetRefusal}
use Rattle.mst_c_blocks.specs.declared.asking.GetRefusal.TheVariants.{Overtaken, NoMap}

-- how many shards there are; of a block that was begun and of its parts it is not asked
abbrev pub shards_in : Role → ℕ
shards_in Away = 0
shards_in (Writer w) = length w.sharding.shards
shards_in (Reader r) = length r.sharding.shards
shards_in (Snapshot s) = length s.sharding.shards
shards_in (Block b) = 0
shards_in (Part p) = 0

-- ---- blocks

-- the number of the writer's last block, or of the snapshot's block; a reader has none
abbrev pub Numbers : Role → Option ℕ → Type 0
Numbers Away number = ⊥
Numbers (Writer w) (Some n) = IsNumber n (last_block w) × IsWriter w
Numbers (Writer w) None = ⊥
Numbers (Reader r) (Some n) = ⊥
Numbers (Reader r) None = Unit {0}
Numbers (Snapshot s) (Some n) = IsNumber n s × IsOneBlock s
Numbers (Snapshot s) None = ⊥
Numbers (Block b) (Some n) = ⊥
Numbers (Block b) None = Unit {0}
Numbers (Part p) (Some n) = ⊥
Numbers (Part p) None = Unit {0}

-- the root digest of the writer's last block, or of the snapshot's block; a reader has none
abbrev pub HasRoot : Role → Option (List ℕ) → Role → Type 0
HasRoot Away root now = ⊥
HasRoot (Writer w) (Some root) now = (now ≡ Writer w)
    × HasShardedRoot (format_seen (last_block w).directory) (block_map w) w.sharding.splits root
HasRoot (Writer w) None now = ⊥
HasRoot (Reader r) (Some root) now = ⊥
HasRoot (Reader r) None now = now ≡ Reader r
HasRoot (Snapshot s) (Some root) now = (now ≡ Snapshot s)
    × OfClean (λ format m. HasShardedRoot format m s.sharding.splits root) s.sharding
HasRoot (Snapshot s) None now = ⊥
HasRoot (Block b) (Some root) now = ⊥
HasRoot (Block b) None now = now ≡ Block b
HasRoot (Part p) (Some root) now = ⊥
HasRoot (Part p) None now = now ≡ Part p

-- ---- snapshots

-- A reader pins the directory and each shard, and is a snapshot then if all of it is of one block;
-- otherwise it ends the pins, and stays a reader. The writer and a snapshot stay
abbrev pub Tries : Role → Option Bool → Role → Type 0
Tries Away taken now = ⊥
Tries (Writer w) None now = now ≡ Writer w
Tries (Writer w) (Some taken) now = ⊥
Tries (Reader r) None now = ⊥
Tries (Reader r) (Some true) now =
    (s : Whole) × (now ≡ Snapshot s) × PinsWhole r s × IsOneBlock s
Tries (Reader r) (Some false) now =
    (q : Whole) × (now ≡ Reader q) × PinsWhole r q × (IsOneBlock q → ⊥)
Tries (Snapshot s) None now = now ≡ Snapshot s
Tries (Snapshot s) (Some taken) now = ⊥
Tries (Block b) None now = now ≡ Block b
Tries (Block b) (Some taken) now = ⊥
Tries (Part p) None now = now ≡ Part p
Tries (Part p) (Some taken) now = ⊥

-- a snapshot ends its pins, and is a reader then; the writer and a reader stay
abbrev pub Releases : Role → Bool → Role → Type 0
Releases Away done now = ⊥
Releases (Writer w) done now = (done ≡ false) × (now ≡ Writer w)
Releases (Reader r) done now = (done ≡ false) × (now ≡ Reader r)
Releases (Snapshot s) done now = (done ≡ true) × (now ≡ Reader s)
Releases (Block b) done now = (done ≡ false) × (now ≡ Block b)
Releases (Part p) done now = (done ≡ false) × (now ≡ Part p)

-- ---- reads

-- a writer that looks has the map of its last block still, and has made the blocks that it had made
pub record StaysWriter (w v : Whole) : Type 0 where
  pub map : block_map v ≡ block_map w
  pub left : LeavesAll w.sharding.shards v.sharding.shards w.directory v.directory
  pub made : (blocks : Blocks) → HasMade blocks w → HasMade blocks v

-- The value of a key: the writer has it from the map of its last block, or tells that another has
-- written to the key's shard; a reader's pass of that shard answers, for which it looks once; a
-- snapshot has it from the map of its block
abbrev pub Gets : List ℕ → Role → Result (Option (List ℕ)) GetRefusal → Role → Type 0
Gets key Away answer now = ⊥
Gets key (Writer w) (Err NoMap) now = ⊥
Gets key (Writer w) (Err Overtaken) now = (v : Whole) × (now ≡ Writer v) × StaysWriter w v
    × Routes key (λ x y. Looks x y × (length y.seen ≢ last_made x)) w.sharding v.sharding
Gets key (Writer w) (Ok answer) now = (v : Whole) × (now ≡ Writer v) × StaysWriter w v
    × (answer ≡ map_get (block_map w) key)
Gets key (Reader r) (Err NoMap) now = ⊥
Gets key (Reader r) (Err Overtaken) now = ⊥
Gets key (Reader r) (Ok answer) now = (q : Whole) × (now ≡ Reader q)
    × Routes key (λ x y. Answers (λ _ m. map_get m key) x answer y) r.sharding q.sharding
    × Routes key (λ x y. y.asked ≡ x.asked + 1) r.sharding q.sharding
    × (q.directory ≡ r.directory)
Gets key (Snapshot s) (Err NoMap) now = ⊥
Gets key (Snapshot s) (Err Overtaken) now = ⊥
Gets key (Snapshot s) (Ok answer) now =
    (now ≡ Snapshot s) × (answer ≡ map_get (map_of s.sharding) key)
Gets key (Block b) (Err NoMap) now = now ≡ Block b
Gets key (Block b) (Err Overtaken) now = ⊥
Gets key (Block b) (Ok answer) now = ⊥
Gets key (Part p) (Err NoMap) now = now ≡ Part p
Gets key (Part p) (Err Overtaken) now = ⊥
Gets key (Part p) (Ok answer) now = ⊥

-- A snapshot answers for its block, and stays. So do the others, which answer nothing
abbrev pub Reads : {R : Type 0} → (Whole → R → Type 0) → Role → Option R → Role → Type 0
Reads Says Away answer now = ⊥
Reads Says (Writer w) None now = now ≡ Writer w
Reads Says (Writer w) (Some answer) now = ⊥
Reads Says (Reader r) None now = now ≡ Reader r
Reads Says (Reader r) (Some answer) now = ⊥
Reads Says (Snapshot s) None now = ⊥
Reads Says (Snapshot s) (Some answer) now = (now ≡ Snapshot s) × Says s answer
Reads Says (Block b) None now = now ≡ Block b
Reads Says (Block b) (Some answer) now = ⊥
Reads Says (Part p) None now = now ≡ Part p
Reads Says (Part p) (Some answer) now = ⊥

-- the same of an answer that takes memory, if no growth was refused
abbrev pub Lists : {R : Type 0} → (Whole → R → Type 0) → Role → Result R ReadRefusal → Role → Type 0
Lists Says Away answer now = ⊥
Lists Says (Writer w) (Err NoSnapshot) now = now ≡ Writer w
Lists Says (Writer w) (Err (Memory refused)) now = ⊥
Lists Says (Writer w) (Ok answer) now = ⊥
Lists Says (Reader r) (Err NoSnapshot) now = now ≡ Reader r
Lists Says (Reader r) (Err (Memory refused)) now = ⊥
Lists Says (Reader r) (Ok answer) now = ⊥
Lists Says (Snapshot s) (Err NoSnapshot) now = ⊥
Lists Says (Snapshot s) (Err (Memory refused)) now = now ≡ Snapshot s
Lists Says (Snapshot s) (Ok answer) now = (now ≡ Snapshot s) × Says s answer
Lists Says (Block b) (Err NoSnapshot) now = now ≡ Block b
Lists Says (Block b) (Err (Memory refused)) now = ⊥
Lists Says (Block b) (Ok answer) now = ⊥
Lists Says (Part p) (Err NoSnapshot) now = now ≡ Part p
Lists Says (Part p) (Err (Memory refused)) now = ⊥
Lists Says (Part p) (Ok answer) now = ⊥
