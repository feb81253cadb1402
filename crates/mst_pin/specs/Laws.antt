-- What holds after every list of events, whatever the answers were.
use Rattle.std.specs.Prelude.{◌≡◌, ◌≢◌, ◌⊎◌, ℕ, List, [], ◌∷◌, Some, None}
use Rattle.std.specs.List.{AllByRecursion}
use Rattle.mst_pin.specs.declared.event.Event.{Event}
use Rattle.mst_pin.specs.declared.event.Event.TheVariants.{Pin, Unpin, Write, Publish}
use Rattle.mst_pin.specs.declared.event.Answer.{Answer}
use Rattle.mst_pin.specs.declared.event.Answer.TheVariants.{Record, Done}
use Rattle.mst_pin.specs.State.{State, opening, IsBlank, IsTaken, AreUsable, Steps, Runs, row_set}

-- a write that is taken is of a row that no current and no pinned record has
abbrev pub WritesAreBlank : Type 0
WritesAreBlank = (passes : ℕ) (events : List Event) (answers : List Answer) (s t : State) (row : ℕ)
    → Runs (opening passes) events answers s → Steps s (Write row) Done t → IsBlank s row

-- if nothing is due, some record can be published, whatever is pinned: with any rows that are
-- usable
abbrev pub SomeRecordIsFree : Type 0
SomeRecordIsFree = (passes : ℕ) (events : List Event) (answers : List Answer) (s : State)
    → Runs (opening passes) events answers s → s.due ≡ None
    → (r : ℕ) × ((rows : ℕ) → AreUsable s (row_set rows) → IsTaken s (Publish r rows))

-- none of the events is the pass's unpin
abbrev pub KeepsPin : ℕ → List Event → Type 0
KeepsPin p events = AllByRecursion (λ e. e ≢ Unpin p) events

-- What holds from a pin to its unpin: of the pass, the record that it was told, the state in which
-- it pinned, and the state after whatever other events.
abbrev pub FromPinOn : (ℕ → ℕ → State → State → Type 0) → Type 0
FromPinOn Holds = (p r : ℕ) (events : List Event) (answers : List Answer) (s t u : State)
    → Steps s (Pin p) (Record r) t → KeepsPin p events → Runs t events answers u → Holds p r s u

-- what holds while a pass keeps its pin of a record: of the record, and the states before and after
-- whatever other events
abbrev pub WhilePinned : (ℕ → State → State → Type 0) → Type 0
WhilePinned Holds = (p r : ℕ) (events : List Event) (answers : List Answer) (s t : State)
    → s.pins p ≡ Some r → KeepsPin p events → Runs s events answers t → Holds r s t

-- among the events is a pin of the pass that was answered with the record, and after it no unpin of
-- the pass
abbrev pub HasPinOf : ℕ → ℕ → List Event → List Answer → Type 0
HasPinOf p r [] answers = ⊥
HasPinOf p r (e ∷ events) [] = ⊥
HasPinOf p r (e ∷ events) (a ∷ answers) =
    ((e ≡ Pin p) × (a ≡ Record r) × KeepsPin p events) ⊎ HasPinOf p r events answers
