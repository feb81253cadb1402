-- What the words of the store mean: rows that stand for the map of a history, at the root of a
-- record; and the desk in the slot, with no write under way.
use Rattle.std.specs.Prelude.{◌≡◌, ℕ, ◌+◌, ◌<◌, ◌≤◌, List, [], ◌∷◌, length, true, slice_index, replicate, Option, Some}
use Rattle.mst_key.specs.declared.format.Format.{Format}
use Rattle.mst_key.specs.declared.format.Format.TheVariants.{One, Two}
use Rattle.mst_key.specs.Map.{Pair}
use Rattle.mst_key.specs.History.{History, after, format_after}
use Rattle.mst_arena.specs.Words as words
use Rattle.mst_arena.specs.Words.{row_in}
use Rattle.mst_arena.specs.Content.{Content}
use Rattle.mst_arena.specs.Lives as lives
use Rattle.mst_arena.specs.declared.life.Life.TheVariants.{Free}
use Rattle.mst_arena.specs.Standing as standing
use Rattle.mst_arena.specs.declared.row.Root.{Root}
use Rattle.mst_arena.specs.Ages.{HasAges}
use Rattle.mst_words.specs.declared.view.DeskState.{DeskState}
use Rattle.mst_words.specs.Layout.{format_word}
use Rattle.mst_words.specs.Records.{Meaning}

-- the rows that words spell, sixteen words a row
abbrev pub rows_in : (ℕ → ℕ → ℕ) → Content
rows_in word x = row_in (word x 0 ∷ word x 1 ∷ word x 2 ∷ word x 3
    ∷ word x 4 ∷ word x 5 ∷ word x 6 ∷ word x 7
    ∷ word x 8 ∷ word x 9 ∷ word x 10 ∷ word x 11
    ∷ word x 12 ∷ word x 13 ∷ word x 14 ∷ word x 15 ∷ [])

-- the root that the words of a record spell, after its version number
abbrev pub root_in : (ℕ → ℕ) → Root
root_in field = words.root_in (field 1 ∷ field 2 ∷ field 3 ∷ field 4 ∷ field 5 ∷ [])

-- a map with the format of its tree
pub record Contents : Type 0 where
  pub format : Format
  pub pairs : List Pair

-- what a history leaves, from a format on
abbrev pub contents_after : Format → History → Contents
contents_after first h = record { format = format_after first h; pairs = after h }

-- the number of a format, as a record has it
abbrev pub format_number : Format → ℕ
format_number One = 1
format_number Two = 2

-- the words of rows and of a record stand for a map in a format, on exactly these rows
abbrev pub StandsOn : (ℕ → ℕ → ℕ) → (ℕ → ℕ) → Contents → List ℕ → Type 0
StandsOn word field m used =
    (s : standing.Stands m.format (rows_in word) (root_in field) m.pairs)
    × (standing.numbers s ≡ used) × (field format_word ≡ format_number m.format)

-- the desk as the crate of rows knows it
abbrev pub state_of : DeskState → lives.State
state_of d = record { current = d.current; versions = d.versions; lives = d.lives }

abbrev pub desk_state : lives.State → DeskState
desk_state s = record { current = s.current; versions = s.versions; lives = s.lives }

-- The slot has the desk of a store of so many rows and passes. No record has a later version than
-- the current one
pub record IsDesk (x : Option lives.State) (rows passes : ℕ) (d : DeskState) : Type 0 where
  pub there : x ≡ Some (state_of d)
  pub rows_is : length d.lives ≡ rows
  pub records : length d.versions ≡ passes + 2
  pub settled : lives.IsSettled (state_of d)
  pub earlier : (r : ℕ) → r < passes + 2 → slice_index d.versions r ≤ lives.version (state_of d)

-- They stand for the map of a history, and the desk says of the rows of each node that the versions
-- that reach them are those since which the node's tree has stood
abbrev pub AgedOn : Format → (ℕ → ℕ → ℕ) → (ℕ → ℕ) → DeskState → History → List ℕ → Type 0
AgedOn first word field d h used =
    (s : StandsOn word field (contents_after first h) used)
    × HasAges first d.lives h s.0.tree.placed

-- the desk of a new store: record 0 is current, each record has version 0, and each row is free
abbrev pub fresh_desk : ℕ → ℕ → lives.State
fresh_desk rows passes =
    record { current = 0; versions = replicate (passes + 2) 0; lives = replicate rows Free }

-- a version reaches a row
abbrev pub Reaches : DeskState → ℕ → ℕ → Type 0
Reaches d v x = lives.reaches d.lives v x ≡ true

abbrev pub version_of : DeskState → ℕ → ℕ
version_of d r = slice_index d.versions r

abbrev pub stored : Format → Meaning (Option lives.State)
stored first = record {
  first = first;
  M = Contents;
  after = contents_after first;
  Stands = StandsOn;
  Aged = AgedOn first;
  IsDesk = IsDesk;
  Reaches = Reaches;
  version = version_of;
}
