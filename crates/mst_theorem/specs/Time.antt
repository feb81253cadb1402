-- Steps of a table, one after another, and those at which calls take effect.
use Rattle.std.specs.Prelude.{◌≡◌, ◌⊎◌, ℕ, true, List, [], ◌∷◌, ◌++◌}
use Rattle.mst_key.specs.declared.history.Change.{Change}
use Rattle.mst_key.specs.History.{History}
use Rattle.mst_pin.specs.declared.event.Event as core
use Rattle.mst_words.specs.declared.view.Shape.{Shape}
use Rattle.mst_words.specs.Deeds.{pinning, trying}
use Rattle.mst_words.specs.Laws.{Table, IsRuled, IsPublication}
use Rattle.mst_words.specs.Moves.{Does, GoesBy}
use Rattle.mst_theorem.specs.Headline.{Operation, Call, wrote, read}

-- from a table steps lead over these tables, the last of which is the other
abbrev pub GoesOn : Shape → Table → List Table → Table → Type 0
GoesOn z s [] t = t ≡ s
GoesOn z s (u ∷ us) t = (added : List core.Event) × GoesBy added s u × IsRuled z u × GoesOn z u us t

-- the pass n, at its seat, publishes the change, and has then seen this
pub record Publishes (n : ℕ) (change : Change) (seen : History) (s t : Table) : Type 0 where
  pub step : IsPublication (record { pass = n; change = change }) s t
  pub by : step.made.before.0.number ≡ n
  pub seen_is : seen ≡ step.made.before.0.seen ++ record { pass = n; change = change } ∷ []

-- the pass n, at its seat, pins the current version, which this history led to
pub record Pins (n : ℕ) (seen : History) (s t : Table) : Type 0 where
  pub step : Does pinning s t
  pub by : step.makes.before.0.number ≡ n
  pub seen_is : seen ≡ step.makes.after.0.pinned_history

-- the pass n, at its seat, takes the turn, and has then seen this
pub record TakesTurn (n : ℕ) (seen : History) (s t : Table) : Type 0 where
  pub step : Does trying s t
  pub by : step.makes.before.0.number ≡ n
  pub on : step.makes.after.0.turn ≡ true
  pub seen_is : seen ≡ step.makes.after.0.seen

-- The point of a call: the step of its pass at which it takes effect, and after which the pass
-- comes to have seen what it has seen at the end of the call. A write's is its publication, a
-- read's its pin, and that of a count, or of a change that is refused, is where it takes the turn
abbrev pub IsPointOf : Operation → ℕ → History → Table → Table → Type 0
IsPointOf (wrote change answered) n seen s t = Publishes n change seen s t
IsPointOf (read reading) n seen s t = Pins n seen s t ⊎ TakesTurn n seen s t

-- From the step on that leads from s to t these calls take effect in this order: each at the step
-- of the call before it, as the reads of one pin do, or at a later one. Where s and t are one
-- table, no step was made yet
abbrev pub ByPoints : Shape → Table → Table → List Call → Type 0
ByPoints z s t [] = Unit {0}
ByPoints z s t (c ∷ cs) = (IsPointOf c.operation c.old.number c.new.seen s t × ByPoints z s t cs)
    ⊎ ((steps : List Table) × (u v : Table) × GoesOn z t steps u × IsRuled z u × IsRuled z v
    × IsPointOf c.operation c.old.number c.new.seen u v × ByPoints z u v cs)

-- one of the steps that lead over these tables is the point of the call
pub record HasPoint (z : Shape) (c : Call) (s : Table) (steps : List Table) (t : Table) : Type 0
  where
    pub front : List Table
    pub back : List Table
    pub u : Table
    pub v : Table
    pub steps_are : steps ≡ front ++ v ∷ back
    pub before : GoesOn z s front u
    pub point : IsPointOf c.operation c.old.number c.new.seen u v
    pub behind : GoesOn z v back t
