-- What C is told when a sharded map is opened.
use Rattle.std.specs.Prelude.{◌≡◌, ◌<◌, ℕ, List, [], length, get_or, Option, Some, None}
use Rattle.mst_key.specs.declared.format.Format.{Format}
use Rattle.mst_words.specs.declared.view.Shape.{Shape}
use Rattle.mst_store.specs.Passes.{IsShape}
use Rattle.mst_shards.specs.BlockHistory.{Whole, whole, IsNumber}
use Rattle.mst_shards.specs.Opening.{Shards, HasShards, Dealt, lot}
use Rattle.mst_shards.specs.Sharding.{IsSplits}
use Rattle.mst_blocks.specs.Writing.{last_block, IsWriterOf, HasMade}
use Rattle.mst_c.specs.Formats.{format_named}
use Rattle.mst_c_blocks.specs.declared.role_box.Role.{Role}
use Rattle.mst_c_blocks.specs.declared.role_box.Role.TheVariants.{Writer, Reader}
use Rattle.mst_c_blocks.specs.declared.hand.PaddedBlocksHand.{PaddedBlocksHand}
use Rattle.mst_c_blocks.specs.Splits.{splits_bytes}

-- the writer of a map that has made no block yet: its last one is block 0, the empty map
pub record IsNewWriter (map : Shards) (w : Whole) : Type 0 where
  pub own : IsWriterOf map w
  pub splits : w.sharding.splits ≡ map.splits
  pub none : HasMade [] w
  pub number : IsNumber 0 (last_block w)

-- a hand's writer is that of a map, and is new
abbrev pub HoldsWriter : Shards → Option Role → Type 0
HoldsWriter map held = (w : Whole) × (held ≡ Some (Writer w)) × IsNewWriter map w

-- what a reader of a map knows of what was dealt to it
abbrev pub reader_of : Shards → Dealt → Whole
reader_of map dealt = whole map.splits dealt.passes dealt.directory

-- the reader of a map with this number: none of its passes has seen or done anything
abbrev pub new_reader : Shards → ℕ → Whole
new_reader map number = reader_of map (lot map.stores map.directory number)

-- the first hand has the writer of a sharded map with these splits and shards of this shape, which
-- has made no block yet, and the hands behind it have its readers, whose numbers are 1, 2 and so on
pub record HandsOpened (splits : List (List ℕ)) (shape : Shape) (hands : List PaddedBlocksHand) :
    Type 0
  where
    pub map : Shards
    pub are : IsSplits splits
    pub is : IsShape shape
    pub shards : HasShards splits shape map
    pub writer : (h : PaddedBlocksHand) → HoldsWriter map (get_or hands 0 h).hand.held
    pub readers : (k : ℕ) (h : PaddedBlocksHand) → 0 < k → k < length hands
        → (get_or hands k h).hand.held ≡ Some (Reader (new_reader map k))

-- the same, where the bytes pack the splits, the format has this number, and a shard has this many
-- rows and as many passes as there are hands
pub record BlocksOpened (format rows : ℕ) (bytes : List ℕ) (hands : List PaddedBlocksHand) : Type 0
  where
    pub named : Format
    pub splits : List (List ℕ)
    pub has_number : format_named format ≡ Some named
    pub packed : bytes ≡ splits_bytes splits
    pub opened : HandsOpened splits
        (record { rows = rows; passes = length hands; format = named }) hands

-- no hand holds anything
abbrev pub NoneHeld : List PaddedBlocksHand → Type 0
NoneHeld hands =
    (k : ℕ) (h : PaddedBlocksHand) → k < length hands → (get_or hands k h).hand.held ≡ None
