-- How passes learn what others have seen: a seat looks at the whole history, or it hears a note and
-- then sees what the note told.
use Rattle.std.specs.Prelude.{◌≡◌, ℕ, ◌+◌, ◌<◌, ◌≤◌, Some}
use Rattle.std.specs.List.{All}
use Rattle.atomic_table.specs.Table.{Me, Step}
use Rattle.mst_key.specs.History.{History, events_of, IsPrefix}
use Rattle.mst_key.specs.declared.format.Format.TheVariants.{One}
use Rattle.mst_words.specs.declared.view.View.{View}
use Rattle.mst_words.specs.World.{idle}
use Rattle.mst_words.specs.Layout.{current_word}

-- a note of what a seat has seen. It is no pass
abbrev pub note_of : View → View
note_of v = record (idle v.rows v.passes v.format 0 0) { seen = v.seen }

-- the seat, when it has heard a note
abbrev pub having_heard : View → View → View
having_heard v note = record v { told = note.seen; asked = v.asked + 1 }

-- the note that is named where none is picked
abbrev pub no_note : View
no_note = idle 0 0 One 0 0

-- each event is of a pass from 1 to n
abbrev pub IsOfPasses : ℕ → History → Type 0
IsOfPasses n log = All (λ e. (0 < e.pass) × (e.pass ≤ n)) log

module _ {S : Type 0} where
  -- The whole history was found. It begins with what the seat had seen and with what it was told,
  -- and, while the seat is pinned, with the history at its pin. The events of its number there are
  -- its own, and each event is of a pass of the store
  pub record Finds (m : Me S View) (log : History) : Type 0 where
    pub later : IsPrefix m.0.seen log
    pub told : IsPrefix m.0.told log
    pub pinned : (r : ℕ) → m.0.pin ≡ Some r → IsPrefix m.0.pinned_history log
    pub own : events_of m.0.number log ≡ m.0.mine
    pub alone : IsOfPasses m.0.passes log

  -- the seat has now seen the whole history
  pub record SeesAll (m m' : Me S View) : Type 0 where
    pub log : History
    pub finds : Finds m log
    pub is : m' ≡ (record m.0 { seen = log; asked = m.0.asked + 1 }, m.1)

  -- The whole history was found, and the seat has now seen the beginning of it that it was told of,
  -- which is no less than it had seen
  pub record SeesTold (m m' : Me S View) : Type 0 where
    pub log : History
    pub forward : IsPrefix m.0.seen m.0.told
    pub finds : Finds m log
    pub is : m' ≡ (record m.0 { seen = m.0.told; asked = m.0.asked + 1 }, m.1)

  -- by one load of the word of the current record
  abbrev pub sees_all : Step S → Me S View → ℕ → Me S View → Type 0
  sees_all st m r m' = (st.word ≡ current_word) × SeesAll m m'

  abbrev pub sees_told : Step S → Me S View → ℕ → Me S View → Type 0
  sees_told st m r m' = (st.word ≡ current_word) × SeesTold m m'
