-- The steps of the table, each with the events that it adds to the list by which the core of pins
-- comes to the table. Only a pin, the end of a pin, a publication and a transfer add one. To take
-- the desk out of the slot or to lay it back changes nothing of the table.
use Rattle.std.specs.Prelude.{◌≡◌, ◌⊎◌, ℕ, ◌*◌, List, [], ◌∷◌, ◌++◌, slice_index, slice_set, None}
use Rattle.mst_key.specs.declared.history.Event.{Event}
use Rattle.mst_pin.specs.declared.event.Event as core
use Rattle.mst_pin.specs.declared.event.Event.TheVariants.{Pin, Unpin, Publish, Transfer}
use Rattle.mst_arena.specs.Lists.{In}
use Rattle.mst_pin.specs.WordParts.{masks}
use Rattle.mst_words.specs.declared.view.View.{View}
use Rattle.mst_words.specs.declared.view.Shape.{Shape}
use Rattle.mst_words.specs.Layout.{turn_word, current_word}
use Rattle.mst_words.specs.World.{dealer, having_dealt, newcomer}
use Rattle.mst_words.specs.Path.{IsPathOf}
use Rattle.mst_words.specs.Notes.{note_of}
use Rattle.mst_words.specs.Deeds.{Deed, told_by, MayDo, word_after, pinning, unpinning, forgetting, transferring}
use Rattle.mst_words.specs.Laws.{Table, IsRuled, Makes, IsPublication, Adds, Hears}

-- by these events, the last first, the core of pins comes from its opening state to the table
abbrev pub IsReachedBy : (z : Shape) → List core.Event → (s : Table) → IsRuled z s → Type 0
IsReachedBy z moves s a = IsPathOf moves z.passes a.parts.cur a.parts.due s.views

-- the table as it is opened: the dealer has the only seat, the turn is free, record 0 is current
pub record IsOpened (z : Shape) (s : Table) : Type 0 where
  pub seats : s.views ≡ dealer z.rows z.passes z.format 1 ∷ []
  pub turn : slice_index s.words turn_word ≡ 0
  pub current : slice_index s.words current_word ≡ 0

-- ---- a deed

-- the events that a deed adds: a pin, the end of a pin and a transfer one, every other deed none
abbrev pub moves_of : Deed → View → List core.Event
moves_of pinning v = Pin v.number ∷ []
moves_of unpinning v = Unpin v.number ∷ []
moves_of forgetting v = Unpin v.number ∷ []
moves_of transferring v = Transfer ∷ []
moves_of deed v = []

-- a seat that may do a deed does it, on one word
pub record Does (deed : Deed) (s t : Table) : Type 0 where
  pub makes : Makes (told_by deed) s t
  pub may : MayDo deed makes.step.word makes.before
  pub finds : makes.found ≡ slice_index s.words makes.step.word
  pub words : t.words ≡ slice_set s.words makes.step.word
      (word_after deed makes.step makes.before.0 makes.found)

-- ---- the other steps

-- the holder of the turn, with no transfer to make, publishes a record that it found drained
pub record MakesCurrent (into : ℕ) (s t : Table) : Type 0 where
  pub event : Event
  pub publishes : IsPublication event s t
  pub settled : publishes.made.before.0.due ≡ None
  pub drained : In into publishes.made.before.0.drained
  pub words : t.words ≡ slice_set s.words current_word (into * masks)

-- a pass is dealt, or a note is written or heard, and no word changes
pub record ChangesSeats (s t : Table) : Type 0 where
  pub seats : Adds having_dealt newcomer s t ⊎ (Adds (λ v. v) note_of s t ⊎ Hears s t)
  pub words : t.words ≡ s.words

-- ---- many steps

-- one step, which adds these events
abbrev pub GoesBy : List core.Event → Table → Table → Type 0
GoesBy added s t = ((deed : Deed) × (d : Does deed s t)
    × (added ≡ moves_of deed d.makes.before.0))
    ⊎ (((into : ℕ) × MakesCurrent into s t × (added ≡ Publish into 0 ∷ []))
    ⊎ (ChangesSeats s t × (added ≡ [])))

-- steps lead from a table as it is opened over these tables, the last first, to this one, and add
-- exactly these events
abbrev pub IsLedTo : Shape → List Table → List core.Event → Table → Type 0
IsLedTo z [] moves t = IsOpened z t × (moves ≡ [])
IsLedTo z (s ∷ tables) moves t = (before added : List core.Event) × IsLedTo z tables before s
    × IsRuled z s × GoesBy added s t × (moves ≡ added ++ before)
