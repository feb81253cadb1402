-- The core as sets and relations: who pins what, which record is current, which rows each record
-- has, and what each event does. No word and no mask stands here.
use Rattle.std.specs.Prelude.{◌≡◌, ◌≢◌, ◌⊎◌, ℕ, ◌+◌, ◌<◌, ◌≤◌, ◌==◌, Bool, true, false, if◌then◌else◌, Option, Some, None, IsSome, IsNone, List, [], ◌∷◌}
use Rattle.std.specs.Int.{bit_at}
use Rattle.mst_pin.specs.declared.event.Event.{Event}
use Rattle.mst_pin.specs.declared.event.Event.TheVariants.{Pin, Unpin, Write, Publish, Transfer, Ask}
use Rattle.mst_pin.specs.declared.event.Answer.{Answer}
use Rattle.mst_pin.specs.declared.event.Answer.TheVariants.{Record, Done, Yes, No, Refused}

-- passes are numbered from 1, records and rows from 0
pub record State : Type 0 where
  pub passes : ℕ
  -- the record that is current
  pub current : ℕ
  -- whether a record has a row
  pub rows : ℕ → ℕ → Bool
  -- the record that a pass pins
  pub pins : ℕ → Option ℕ
  -- the record whose transfer waits: the one that was current before the last publish
  pub due : Option ℕ

-- record 0 is current, no record has a row, and nothing is pinned
abbrev pub opening : ℕ → State
opening passes =
    record { passes = passes; current = 0; rows = λ r x. false; pins = λ p. None; due = None }

abbrev pub IsPass : State → ℕ → Type 0
IsPass s p = (0 < p) × (p ≤ s.passes)

abbrev pub IsRecord : State → ℕ → Type 0
IsRecord s r = r < s.passes + 2

abbrev pub IsRow : ℕ → Type 0
IsRow x = x < 64

-- some pass pins the record
abbrev pub IsPinned : State → ℕ → Type 0
IsPinned s r = (p : ℕ) × (s.pins p ≡ Some r)

-- nobody pins the record
abbrev pub IsDrained : State → ℕ → Type 0
IsDrained s r = (p : ℕ) → s.pins p ≢ Some r

-- the record is current or pinned
abbrev pub IsLive : State → ℕ → Type 0
IsLive s r = (r ≡ s.current) ⊎ IsPinned s r

-- no current or pinned record has the row
abbrev pub IsBlank : State → ℕ → Type 0
IsBlank s x = (r : ℕ) → IsLive s r → s.rows r x ≡ false

-- a pinned record, other than the current one, has the row
abbrev pub IsHeld : State → ℕ → Type 0
IsHeld s x = (r : ℕ) × (r ≢ s.current) × IsPinned s r × (s.rows r x ≡ true)

-- the set of rows that an event names by the bits of a number
abbrev pub row_set : ℕ → ℕ → Bool
row_set rows x = bit_at rows x == 1

-- each row of the set is the current record's, or blank
abbrev pub AreUsable : State → (ℕ → Bool) → Type 0
AreUsable s set = (x : ℕ) → set x ≡ true → (s.rows s.current x ≡ true) ⊎ IsBlank s x

-- where an event is taken
abbrev pub IsTaken : State → Event → Type 0
IsTaken s (Pin p) = IsPass s p × IsNone (s.pins p)
IsTaken s (Unpin p) = IsSome (s.pins p)
IsTaken s (Write x) = IsRow x × IsBlank s x × IsNone s.due
IsTaken s (Publish r rows) =
    IsNone s.due × IsRecord s r × (r ≢ s.current) × IsDrained s r × AreUsable s (row_set rows)
IsTaken s Transfer = IsSome s.due
IsTaken s (Ask r) = IsNone s.due × IsRecord s r × (r ≢ s.current)

-- a function with one value changed
abbrev pub with_value : {A : Type 0} → (ℕ → A) → ℕ → A → ℕ → A
with_value f k v n = if n == k then v else f n

-- what an event that is taken leaves
abbrev pub after : State → Event → State
after s (Pin p) = record s { pins = with_value s.pins p (Some s.current) }
after s (Unpin p) = record s { pins = with_value s.pins p None }
after s (Write x) = s
after s (Publish r rows) =
    record s { current = r; rows = with_value s.rows r (row_set rows); due = Some s.current }
after s Transfer = record s { due = None }
after s (Ask r) = s

-- what an event that is taken is answered
abbrev pub Answers : State → Event → Answer → Type 0
Answers s (Pin p) a = a ≡ Record s.current
Answers s (Unpin p) a = a ≡ Done
Answers s (Write x) a = a ≡ Done
Answers s (Publish r rows) a = a ≡ Done
Answers s Transfer a = a ≡ Done
Answers s (Ask r) a = ((a ≡ Yes) × IsDrained s r) ⊎ ((a ≡ No) × IsPinned s r)

-- one step: the event is taken and answered, or it is refused and changes nothing
abbrev pub Steps : State → Event → Answer → State → Type 0
Steps s e a t =
    (IsTaken s e × Answers s e a × (t ≡ after s e)) ⊎ ((¬ IsTaken s e) × (a ≡ Refused) × (t ≡ s))

-- a list of events, with the answer to each
abbrev pub Runs : State → List Event → List Answer → State → Type 0
Runs s [] [] t = t ≡ s
Runs s (e ∷ es) (a ∷ rest) t = (m : State) × Steps s e a m × Runs m es rest t
Runs s [] (a ∷ rest) t = ⊥
Runs s (e ∷ es) [] t = ⊥
