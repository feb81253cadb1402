-- What the laws of the rule speak of: the table of a store, what its seats have seen and made, what
-- its words say, and its steps.
use Rattle.std.specs.Prelude.{◌≡◌, ◌⊎◌, ℕ, ◌+◌, ◌*◌, ◌<◌, true, List, [], ◌∷◌, ◌++◌, length, slice_index, slice_set, Option}
use Rattle.atomic_table.specs.Table.{State, Me, Step}
use Rattle.mst_key.specs.declared.history.Event.{Event}
use Rattle.mst_key.specs.History.{History}
use Rattle.mst_arena.specs.Lists.{In}
use Rattle.mst_arena.specs.Lives as lives
use Rattle.mst_pin.specs.WordParts.{masks}
use Rattle.mst_words.specs.declared.view.View.{View}
use Rattle.mst_words.specs.declared.view.Shape.{Shape}
use Rattle.mst_words.specs.declared.view.DeskState.{DeskState}
use Rattle.mst_words.specs.Layout.{record_words, version_word, row_words, current_word, record_word, row_word, table_words}
use Rattle.mst_words.specs.World.{SeatAt, having_dealt, newcomer}
use Rattle.mst_words.specs.Records.{field, row}
use Rattle.mst_words.specs.Rule.{Ruled, IsSeen}
use Rattle.mst_words.specs.Steps.{publishes}
use Rattle.mst_words.specs.Deeds.{Told, Deed, told_by, giving, unpinning, forgetting, reading, writing, transferring}
use Rattle.mst_words.specs.Notes.{note_of, having_heard}
use Rattle.mst_words.specs.Stored.{stored, StandsOn, contents_after}

-- the table of a store, as its rule sees it
abbrev pub Table : Type 0
Table = State (Option lives.State) View

-- the table of a store of this shape is as the rule says. Its history is `parts.log`
abbrev pub IsRuled : Shape → Table → Type 0
IsRuled z s = Ruled (stored z.format) z.rows z.passes s

-- what each seat of the one table has seen, some seat of the other has seen
abbrev pub HaveSeen : Table → Table → Type 0
HaveSeen s t = (i : ℕ) (v : View) → SeatAt s.views i v
    → (j : ℕ) × (w : View) × SeatAt t.views j w × (w.seen ≡ v.seen)

-- each pass of the one table is one of the other, and has made the same events
abbrev pub HaveMade : Table → Table → Type 0
HaveMade s t = (i : ℕ) (v : View) → SeatAt s.views i v → 0 < v.number
    → (j : ℕ) × (w : View) × SeatAt t.views j w × (w.number ≡ v.number) × (w.mine ≡ v.mine)

-- a seat of the table has the turn
abbrev pub HasTurn : Table → View → Type 0
HasTurn s v = (i : ℕ) × SeatAt s.views i v × (v.turn ≡ true)

-- a word of a record, or of a row that stands for its version, in a table of so many rows
abbrev pub IsWordOf : ℕ → ℕ → List ℕ → ℕ → Type 0
IsWordOf rows r used i = ((k : ℕ) × (k < record_words) × (i ≡ record_word r k))
    ⊎ ((x k : ℕ) × In x used × (k < row_words) × (i ≡ row_word rows x k))

-- The words tell what a history leaves, which some seat has seen: the word of the current record
-- names it, its first word is the number of events, and it stands for their map on rows of the
-- table
pub record Tells (z : Shape) (s : Table) (log : History) : Type 0 where
  pub current : ℕ
  pub mask : ℕ
  pub used : List ℕ
  pub wide : length s.words ≡ table_words z.rows
  pub named : slice_index s.words current_word ≡ current * masks + mask
  pub small : mask < masks
  pub there : current < z.passes + 2
  pub version : field s.words current version_word ≡ length log
  pub stands : StandsOn (row z.rows s.words) (field s.words current) (contents_after z.format log)
      used
  pub inside : (x : ℕ) → In x used → x < z.rows
  pub seen : IsSeen (stored z.format) z.rows z.passes log s.views

-- ---- steps

-- one seat makes a step, which tells it this. Each other seat has what it had
pub record Makes (told : Told) (s t : Table) : Type 0 where
  pub id : ℕ
  pub step : Step (Option lives.State)
  pub found : ℕ
  pub before : Me (Option lives.State) View
  pub after : Me (Option lives.State) View
  pub at : SeatAt s.views id before.0
  pub views : t.views ≡ slice_set s.views id after.0
  pub tells : told step before found after

-- the holder of the turn publishes the event
pub record IsPublication (e : Event) (s t : Table) : Type 0 where
  pub desk : DeskState
  pub made : Makes (publishes e desk) s t
  pub on : made.before.0.turn ≡ true

-- a seat keeps the one view, and a new seat has the other
pub record Adds (kept new : View → View) (s t : Table) : Type 0 where
  pub id : ℕ
  pub view : View
  pub at : SeatAt s.views id view
  pub views : t.views ≡ slice_set s.views id (kept view) ++ new view ∷ []

-- a seat hears a note, which is another seat
pub record Hears (s t : Table) : Type 0 where
  pub id : ℕ
  pub view : View
  pub other : ℕ
  pub note : View
  pub at : SeatAt s.views id view
  pub note_at : SeatAt (slice_set s.views id (having_heard view note)) other note
  pub views : t.views ≡ slice_set (slice_set s.views id (having_heard view note)) other note

-- any step that publishes nothing: a deed of a seat, the dealing of a pass, the writing or the
-- hearing of a note
abbrev pub IsOther : Table → Table → Type 0
IsOther s t = ((deed : Deed) × Makes (told_by deed) s t) ⊎ (Adds having_dealt newcomer s t
    ⊎ (Adds (λ v. v) note_of s t ⊎ Hears s t))

-- ---- counts

-- How much a deed adds to `asked`: one if what it finds depends on what other passes do. Of the
-- others no call returns what was found, but for `reading`, which finds what the seat knew
abbrev pub count_of : Deed → ℕ
count_of giving = 0
count_of unpinning = 0
count_of forgetting = 0
count_of reading = 0
count_of writing = 0
count_of transferring = 0
count_of deed = 1

-- the seat is that of the same pass, or still of none, and has counted n more
pub record HasCounted (n : ℕ) (v v' : View) : Type 0 where
  pub asked : v'.asked ≡ v.asked + n
  pub number : v'.number ≡ v.number
