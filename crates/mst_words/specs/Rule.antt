-- The rule of the table: its parts (the turn, the pins, the records and rows, and the world), and
-- what follows from them.
use Rattle.std.specs.Prelude.{◌≡◌, ◌⊎◌, ℕ, ◌<◌, true, List, [], ◌∷◌, length, slice_index, Option, Some, None}
use mathlib.Core.Option.{none, some}
use Rattle.atomic_table.specs.Table.{State}
use Rattle.mst_key.specs.History.{History}
use Rattle.mst_arena.specs.Lists.{In}
use Rattle.mst_words.specs.declared.view.View.{View}
use Rattle.mst_words.specs.declared.view.DeskState.{DeskState}
use Rattle.mst_words.specs.Layout.{turn_word, current_word, table_words}
use Rattle.mst_words.specs.World.{SeatAt, World}
use Rattle.mst_words.specs.Pins.{Pins, Clear, Counts}
use Rattle.mst_words.specs.Path.{Path}
use Rattle.mst_words.specs.Records.{Meaning, IsLive, IsBlank, Rows}

-- with one pass, the word of the current record is as the holder of the turn has noted it
pub record Still (n word : ℕ) (views : List View) : Type 0 where
  pub noted : (i : ℕ) (v : View) → SeatAt views i v → v.turn ≡ true → n ≡ 1 → (w : ℕ)
      → v.noted ≡ Some w → w ≡ word

module _ {S : Type 0} (T : Meaning S) (R n : ℕ) where
  -- While the turn is free, the slot is at home with the desk, and no transfer waits. Otherwise the
  -- turn names the one pass that has the slot, and that pass has seen the whole history and knows
  -- the desk
  pub record Turn (word : ℕ) (homes : List (mathlib.Core.Option.Option S)) (desk : DeskState)
      (due : Option ℕ) (log : History) (views : List View) : Type 0 where
    pub free : word ≡ 0 → (x : S) × (homes ≡ some x ∷ []) × T.IsDesk x R n desk × (due ≡ None)
    pub taken : 0 < word → (homes ≡ none ∷ [])
        × ((i : ℕ) × (v : View) × SeatAt views i v × (v.turn ≡ true))
    pub holder : (i : ℕ) (v : View) → SeatAt views i v → v.turn ≡ true → (0 < word)
        × (v.number ≡ word) × (v.seen ≡ log) × (v.desk ≡ desk)

  -- the rows that the holder of the turn may write are in no live version
  pub record Apart (cur : ℕ) (used : ℕ → List ℕ) (views : List View) : Type 0 where
    pub blank : (i : ℕ) (v : View) → SeatAt views i v → v.turn ≡ true → (x : ℕ) → IsBlank T v x
        → (r : ℕ) → IsLive cur views r → In x (used r) → ⊥

  -- some seat has seen the whole history, unless it is empty. So the one history is the longest
  -- that a seat has seen
  pub record IsSeen (log : History) (views : List View) : Type 0 where
    pub whole : (log ≡ []) ⊎ ((i : ℕ) × (v : View) × SeatAt views i v × (v.seen ≡ log))

  -- there is one history, for which the parts hold
  pub record Parts (s : State S View) : Type 0 where
    pub log : History
    pub next : ℕ
    pub cur : ℕ
    pub mask : ℕ
    pub due : Option ℕ
    pub beside : ℕ → ℕ
    pub desk : DeskState
    pub place : ℕ → History
    pub used : ℕ → List ℕ
    pub wide : length s.words ≡ table_words R
    pub turn : Turn (slice_index s.words turn_word) s.homes desk due log s.views
    pub pins : Pins n cur mask due beside s.words s.views
    pub rows : Rows T R n cur s.words log desk place used s.views
    pub world : World R n T.first next log s.views
    pub clear : Clear n beside s.words s.views
    pub counts : Counts n cur s.views
    pub path : Path n cur due s.views
    pub still : Still n (slice_index s.words current_word) s.views

  pub record Ruled (s : State S View) : Type 0 where
    pub parts : Parts s
    pub apart : Apart parts.cur parts.used s.views
    pub seen : IsSeen parts.log s.views
