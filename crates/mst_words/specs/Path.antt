-- The pins of the table are those of the core of pins: the current record, the pins of the passes
-- and the record whose transfer waits are reached from the core's opening state by events that it
-- takes. Which events these are, step by step, is in `Moves`.
use Rattle.std.specs.Prelude.{◌≡◌, ℕ, ◌<◌, List, [], ◌∷◌, Option, Some}
use Rattle.mst_pin.specs.declared.event.Event as core
use Rattle.mst_pin.specs.declared.event.Event.TheVariants.{Pin, Unpin, Write, Publish, Transfer, Ask}
use Rattle.mst_pin.specs.State.{State, opening, IsTaken, after}
use Rattle.mst_words.specs.declared.view.View.{View}
use Rattle.mst_words.specs.World.{SeatAt}

-- an event that is about pins; of rows and of asking other parts of the rule speak
abbrev pub IsMove : core.Event → Type 0
IsMove (Pin p) = Unit {0}
IsMove (Unpin p) = Unit {0}
IsMove (Write x) = ⊥
IsMove (Publish r rows) = rows ≡ 0
IsMove Transfer = Unit {0}
IsMove (Ask r) = ⊥

-- the core of n passes comes by these events, of which the last stands first, to a state, and takes
-- each
abbrev pub ComesTo : ℕ → List core.Event → State → Type 0
ComesTo n [] s = s ≡ opening n
ComesTo n (e ∷ es) s =
    (before : State) × ComesTo n es before × IsMove e × IsTaken before e × (s ≡ after before e)

-- by these events the core comes to this current record, to this transfer that waits, and to the
-- pins that the views tell
pub record IsPathOf (moves : List core.Event) (n cur : ℕ) (due : Option ℕ)
    (views : List View) : Type 0 where
  pub state : State
  pub comes : ComesTo n moves state
  pub passes_is : state.passes ≡ n
  pub cur_is : state.current ≡ cur
  pub due_is : state.due ≡ due
  pub pins_are : (i : ℕ) (v : View) → SeatAt views i v → 0 < v.number → state.pins v.number ≡ v.pin
  pub seats_are : (p r : ℕ) → state.pins p ≡ Some r → (0 < p)
      × ((i : ℕ) × (v : View) × SeatAt views i v × (v.number ≡ p))

-- some events lead there
pub record Path (n cur : ℕ) (due : Option ℕ) (views : List View) : Type 0 where
  pub moves : List core.Event
  pub is : IsPathOf moves n cur due views
