-- What the passes know of the one history: each has seen a beginning of it, and its own events in
-- it are its own list (Herlihy and Wing 1990, in a limited form: no order between passes that never
-- met).
use Rattle.std.specs.Prelude.{◌≡◌, ℕ, ◌+◌, ◌<◌, ◌≤◌, false, List, [], Some, None}
use Rattle.std.specs.List.{All}
use mathlib.Core.Option.{some}
use lib.ListN.{get_elem?}
use Rattle.mst_key.specs.History.{History, events_of, IsPrefix}
use Rattle.mst_key.specs.declared.format.Format.{Format}
use Rattle.mst_words.specs.declared.view.View.{View}
use Rattle.mst_words.specs.declared.view.DeskState.{DeskState}

-- the seat i has the view v
abbrev pub SeatAt : List View → ℕ → View → Type 0
SeatAt views i v = get_elem? views i ≡ some v

-- What the seat has seen, and what it was told, begins the history, in which the events of its
-- number are its own. A pass has seen its own events; and so had a pinned one at its pin, when the
-- history was `pinned_history`
pub record Fits (log : History) (v : View) : Type 0 where
  pub seen : IsPrefix v.seen log
  pub told : IsPrefix v.told log
  pub own : events_of v.number log ≡ v.mine
  pub mine : 0 < v.number → events_of v.number v.seen ≡ v.mine
  pub pinned : (r : ℕ) → v.pin ≡ Some r → IsPrefix v.pinned_history log
      × (events_of v.number v.pinned_history ≡ v.mine)

-- the seat knows the size of the store. Its number is below the next one to be dealt, and only the
-- dealer's seat, which is no pass, deals
pub record IsPlaced (rows passes : ℕ) (first : Format) (next : ℕ) (v : View) : Type 0 where
  pub rows_is : v.rows ≡ rows
  pub passes_is : v.passes ≡ passes
  pub format_is : v.format ≡ first
  pub number : v.number < next
  pub deals : 0 < v.deals → (v.deals ≡ next) × (v.number ≡ 0)

-- Each seat fits the history. No two passes have one number, each pass that was dealt has a seat,
-- there is one dealer, no more passes were dealt than the store has, and each event is of a pass
-- that was dealt
pub record World (rows passes : ℕ) (first : Format) (next : ℕ) (log : History)
    (views : List View) : Type 0 where
  pub fits : (i : ℕ) (v : View) → SeatAt views i v → Fits log v
  pub placed : (i : ℕ) (v : View) → SeatAt views i v → IsPlaced rows passes first next v
  pub apart : (i j : ℕ) (v w : View) → SeatAt views i v → SeatAt views j w → 0 < v.number
      → v.number ≡ w.number → i ≡ j
  pub seated : (p : ℕ) → 0 < p → p < next → (i : ℕ) × (v : View) × SeatAt views i v × (v.number ≡ p)
  pub dealer : (i j : ℕ) (v w : View) → SeatAt views i v → SeatAt views j w → 0 < v.deals
      → 0 < w.deals → i ≡ j
  pub few : next ≤ passes + 1
  pub named : All (λ e. (0 < e.pass) × (e.pass < next)) log

-- the desk of a seat that has never had the turn
abbrev pub no_desk : DeskState
no_desk = record { current = 0; versions = []; lives = [] }

-- a seat that has seen and done nothing
abbrev pub idle : ℕ → ℕ → Format → ℕ → ℕ → View
idle rows passes first number deals = record {
  number = number;
  rows = rows;
  passes = passes;
  format = first;
  deals = deals;
  seen = [];
  mine = [];
  told = [];
  pin = None;
  pinned_history = [];
  pinned_rows = [];
  known_words = [];
  turn = false;
  desk = no_desk;
  due = None;
  mask = 0;
  drained = [];
  blocked = [];
  noted = None;
  found = [];
  asked = 0;
  missed = 0;
}

-- the dealer's seat, which deals the pass of the number `next` next
abbrev pub dealer : ℕ → ℕ → Format → ℕ → View
dealer rows passes first next = idle rows passes first 0 next

-- the dealer's seat after the next pass is dealt
abbrev pub having_dealt : View → View
having_dealt v = record v { deals = v.deals + 1 }

-- the pass that the dealer deals next
abbrev pub newcomer : View → View
newcomer v = idle v.rows v.passes v.format v.deals 0
