-- What is known of a pass at a moment: what its callers see of it. What a call says is said of
-- this, once for the seat that makes the steps and for the pass that has the seat.
use Rattle.std.specs.Prelude.{◌≡◌, ℕ, ◌+◌, ◌<◌, List, Option}
use Rattle.atomic_table.specs.Seated.{TableId}
use Rattle.mst_key.specs.declared.format.Format.{Format}
use Rattle.mst_key.specs.declared.history.Change.{Change}
use Rattle.mst_key.specs.declared.history.Event.{Event}
use Rattle.mst_key.specs.History.{History, format_after, events_of, IsPrefix}
pub use Rattle.mst_arena.specs.Limits.{most_rows}
use Rattle.mst_words.specs.Access.{Seated}
use Rattle.mst_words.specs.Notes.{IsOfPasses}

-- which store it is, its size, and the format of its version 0
pub record StoreId : Type 0 where
  pub table : TableId
  pub rows : ℕ
  pub passes : ℕ
  pub format : Format

-- Which store a pass is of, its number, the history that it has seen, and its own events. And how
-- many of its steps so far had an answer that depends on what other passes do: a loop that waits
-- for another pass makes such a step in each turn. And how many of these were tries of the turn
-- that missed, since another pass had it. And which versions it found pinned when it had the turn
-- last. And the version that its last write made, if it made one
pub record Known : Type 0 where
  pub store : StoreId
  pub number : ℕ
  pub seen : History
  pub mine : History
  pub asked : ℕ
  pub missed : ℕ
  pub found : List ℕ
  pub made : Option ℕ

-- which store a seat is of
abbrev pub store_of : Seated → StoreId
store_of s =
    record { table = s.table; rows = s.me.0.rows; passes = s.me.0.passes; format = s.me.0.format }

-- what the seat of a pass that made this version shows to callers
abbrev pub known : ℕ → Option ℕ → Seated → Known
known number made s = record {
  store = store_of s;
  number = number;
  seen = s.me.0.seen;
  mine = s.me.0.mine;
  asked = s.me.0.asked;
  missed = s.me.0.missed;
  found = s.me.0.found;
  made = made;
}

-- the relation holds of what the pass at the seat knew and what it knows, whatever version it made
-- last
abbrev pub AtSeat : (Known → Known → Type 0) → ℕ → Seated → Seated → Type 0
AtSeat Holds number s z = (made : Option ℕ) → Holds (known number made s) (known number made z)

-- the pass, after n more steps whose answer depends on others
abbrev pub having_asked : ℕ → Known → Known
having_asked n p = record p { asked = p.asked + n }

-- the pass, after n tries of the turn at which another pass had it
abbrev pub having_missed : ℕ → Known → Known
having_missed n p = record p { asked = p.asked + n; missed = p.missed + n }

-- it is the same pass of the same store
abbrev pub IsSamePass : Known → Known → Type 0
IsSamePass p q = (q.store ≡ p.store) × (q.number ≡ p.number)

-- The pass has now seen a history that begins with all that it had seen. Its events in it are its
-- own, and none was added to them. Each event is of a pass of the store. The pass never found the
-- turn taken, and the version that it made last is the same
pub record Looks (p q : Known) : Type 0 where
  pub same : IsSamePass p q
  pub later : IsPrefix p.seen q.seen
  pub mine : q.mine ≡ p.mine
  pub own : events_of q.number q.seen ≡ q.mine
  pub alone : IsOfPasses q.store.passes q.seen
  pub missed : q.missed ≡ p.missed
  pub made : q.made ≡ p.made

-- the turn was tried once, and another pass had it, so there is one; nothing else changed
abbrev pub FindsBusy : Known → Known → Type 0
FindsBusy p q = (q ≡ having_missed 1 p) × (1 < p.store.passes)

-- the format of the version that a pass has seen last
abbrev pub format_seen : Known → Format
format_seen q = format_after q.store.format q.seen

-- a change, made by this pass
abbrev pub made_by : Known → Change → Event
made_by p change = record { pass = p.number; change = change }
