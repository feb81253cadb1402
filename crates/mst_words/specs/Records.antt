-- What the records and the rows of the table stand for: the current record and each pinned one for
-- the map at its place in the history, on exactly the rows that the desk says its version reaches.
use Rattle.std.specs.Prelude.{◌≡◌, ◌⊎◌, ◌↔◌, ℕ, ◌+◌, ◌<◌, ◌≤◌, true, List, length, slice_index, Some}
use Rattle.mst_key.specs.History.{History, IsPrefix}
use Rattle.mst_key.specs.declared.format.Format.{Format}
use Rattle.mst_arena.specs.Lists.{In}
use Rattle.mst_arena.specs.Lives.{last_version}
use Rattle.mst_words.specs.declared.view.View.{View}
use Rattle.mst_words.specs.declared.view.DeskState.{DeskState}
use Rattle.mst_words.specs.Layout.{record_words, version_word, row_words, first_record, record_word, row_word}
use Rattle.mst_words.specs.World.{SeatAt}

-- a word of a record: its version number, the link of its root, the four words of its digest, and
-- the number of its format
abbrev pub field : List ℕ → ℕ → ℕ → ℕ
field ws r k = slice_index ws (record_word r k)

-- a word of a row, of a table of so many rows
abbrev pub row : ℕ → List ℕ → ℕ → ℕ → ℕ
row rows ws x k = slice_index ws (row_word rows x k)

-- a word of a row, as the seat knows the words
abbrev pub known_row : View → ℕ → ℕ → ℕ
known_row v = row v.rows v.known_words

-- What the rule is about: the format of version 0; the map of a history with its format; when the
-- words of rows and of a record stand for a map, on which rows; when they stand for the map of a
-- history, and the desk knows how old these rows are; what lies in the slot; which rows a version
-- reaches; and the version of each record.
pub record Meaning (S : Type 0) : Type 1 where
  pub first : Format
  pub M : Type 0
  pub after : History → M
  pub Stands : (ℕ → ℕ → ℕ) → (ℕ → ℕ) → M → List ℕ → Type 0
  pub Aged : (ℕ → ℕ → ℕ) → (ℕ → ℕ) → DeskState → History → List ℕ → Type 0
  pub IsDesk : S → ℕ → ℕ → DeskState → Type 0
  pub Reaches : DeskState → ℕ → ℕ → Type 0
  pub version : DeskState → ℕ → ℕ

-- words g and q agree with f and p where a record and these rows stand
abbrev pub SameWords : (ℕ → ℕ → ℕ) → (ℕ → ℕ → ℕ) → (ℕ → ℕ) → (ℕ → ℕ) → List ℕ → Type 0
SameWords f g p q used = ((x : ℕ) → In x used → (k : ℕ) → k < row_words → g x k ≡ f x k)
    × ((k : ℕ) → k < record_words → q k ≡ p k)

-- a record that is current or pinned
abbrev pub IsLive : ℕ → List View → ℕ → Type 0
IsLive cur views r = (r ≡ cur) ⊎ ((i : ℕ) × (v : View) × SeatAt views i v × (v.pin ≡ Some r))

module _ {S : Type 0} (T : Meaning S) where
  -- a row that no version reaches whose record was not found drained, by what the holder of the
  -- turn knows
  abbrev pub IsBlank : View → ℕ → Type 0
  IsBlank v x = (x < v.rows) × ((r : ℕ) → r < v.passes + 2 → (In r v.drained → ⊥)
      → T.Reaches v.desk (T.version v.desk r) x → ⊥)

  -- Two desks have one version in a record, and say of the same rows that it reaches them. Of such
  -- a row they say that the same versions up to that one reach it
  pub record Agrees (d d' : DeskState) (r : ℕ) : Type 0 where
    pub version : T.version d' r ≡ T.version d r
    pub reached : (x : ℕ) → T.Reaches d (T.version d r) x → T.Reaches d' (T.version d r) x
    pub exactly : (x : ℕ) → T.Reaches d' (T.version d r) x → T.Reaches d (T.version d r) x
    pub ages : (x v : ℕ) → v ≤ T.version d r → T.Reaches d (T.version d r) x → T.Reaches d v x
        ↔ T.Reaches d' v x

  -- What stands does so by the words of the record and of those rows alone. The age of its rows is
  -- known to each desk that agrees on the record
  pub record IsFramed : Type 0 where
    pub stands : (f g : ℕ → ℕ → ℕ) (p q : ℕ → ℕ) (m : T.M) (used : List ℕ) → SameWords f g p q used
        → T.Stands f p m used → T.Stands g q m used
    pub aged : (f g : ℕ → ℕ → ℕ) (p q : ℕ → ℕ) (h : History) (used : List ℕ) (d d' : DeskState)
        (r : ℕ) → SameWords f g p q used → T.version d r ≡ length h
        → ((x : ℕ) → In x used → T.Reaches d (length h) x) → Agrees d d' r
        → T.Aged f p d h used → T.Aged g q d' h used

  module _ (R n : ℕ) where
    -- a record stands for the map at a place of the history, by these rows, which are those that
    -- its version reaches; and the desk knows how old they are
    pub record Standing (ws : List ℕ) (log : History) (desk : DeskState)
        (r : ℕ) (place : History) (used : List ℕ) : Type 0 where
      pub numbered : r < n + 2
      pub begins : IsPrefix place log
      pub version : field ws r version_word ≡ length place
      pub filed : T.version desk r ≡ length place
      pub stands : T.Stands (row R ws) (field ws r) (T.after place) used
      pub aged : T.Aged (row R ws) (field ws r) desk place used
      pub inside : (x : ℕ) → In x used → x < R
      pub reached : (x : ℕ) → In x used → T.Reaches desk (length place) x
      pub exactly : (x : ℕ) → x < R → T.Reaches desk (length place) x → In x used

    -- what a pinned seat may read is as it was at the pin
    pub record Reads (ws : List ℕ) (r : ℕ) (place : History) (used : List ℕ)
        (v : View) : Type 0 where
      pub place_is : v.pinned_history ≡ place
      pub rows_are : v.pinned_rows ≡ used
      pub fields : (k : ℕ) → k < record_words → field ws r k ≡ field v.known_words r k
      pub kept : (x : ℕ) → In x used → (k : ℕ) → k < row_words → row R ws x k
          ≡ row R v.known_words x k

    -- The current record stands for the whole history and each pinned one for its place. What a
    -- pinned seat may read is as it was. The holder of the turn knows all words of records and rows
    pub record Rows (cur : ℕ) (ws : List ℕ) (log : History) (desk : DeskState)
        (place : ℕ → History) (used : ℕ → List ℕ) (views : List View) : Type 0 where
      pub now : place cur ≡ log
      pub desk_at : desk.current ≡ cur
      pub short : length log ≤ last_version
      pub live : (r : ℕ) → IsLive cur views r → Standing ws log desk r (place r) (used r)
      pub reads : (i : ℕ) (v : View) → SeatAt views i v → (r : ℕ) → v.pin ≡ Some r
          → Reads ws r (place r) (used r) v
      pub held : (i : ℕ) (v : View) → SeatAt views i v → v.turn ≡ true
          → (length v.known_words ≡ length ws)
          × ((k : ℕ) → first_record ≤ k → slice_index ws k ≡ slice_index v.known_words k)
