-- Two passes of a store, or all of them, come to have seen one history.
use Rattle.std.specs.Prelude.{◌≡◌, ℕ, ◌+◌, ◌<◌, ◌≤◌, ◌++◌, false, List, map, All, Contains}
use Rattle.atomic_table.specs.Seated.{TableId}
use Rattle.mst_key.specs.declared.history.Event.{Event}
use Rattle.mst_key.specs.History.{History, events_of, IsPrefix}
use Rattle.mst_words.specs.Notes.{IsOfPasses}
use Rattle.mst_store.specs.Passes.{StoreId, Known, having_asked}
use Rattle.mst_versions.specs.Turns.{SeatState}

-- the pass, when it has heard of this history and seen it: two steps whose answer depends on others
abbrev pub having_seen : History → Known → Known
having_seen log p = record p { seen = log; asked = p.asked + 1 + 1 }

-- Two passes have now heard of one history and seen it, and nothing else about them changed. It
-- begins with all that either had seen, the events of each in it are its own, and each event is of
-- a pass of the store
pub record Met (p q p' q' : Known) : Type 0 where
  pub log : History
  pub now : (p' ≡ having_seen log p) × (q' ≡ having_seen log q)
  pub later : IsPrefix p.seen log × IsPrefix q.seen log
  pub own : (events_of p.number log ≡ p.mine) × (events_of q.number log ≡ q.mine)
  pub alone : IsOfPasses p.store.passes log

-- the numbers of the passes
abbrev pub numbers : List Known → List ℕ
numbers ps = map (λ p. p.number) ps

-- the passes are all those of one store, in any order: each number from 1 to the number of its
-- passes is that of one of them
pub record AreAllPasses (ps : List Known) : Type 0 where
  pub store : StoreId
  pub of_one : All (λ p. p.store ≡ store) ps
  pub complete : (n : ℕ) → 0 < n → n ≤ store.passes → Contains (numbers ps) n

-- the event is of one of the passes
abbrev pub IsOfOne : List Known → Event → Type 0
IsOfOne ps e = Contains (numbers ps) e.pass

-- All passes have now heard of one history and seen it; those that pin a version have asked three
-- times, and keep what they pin. Nothing else about them changed. It begins with all that each of
-- them had seen and with the history at each pin, each pass's events in it are its own, and it has
-- no events but theirs
pub record Settled (free held free' held' : List Known) : Type 0 where
  pub log : History
  pub now : free' ≡ map (having_seen log) free
  pub still : held' ≡ map (having_asked 3) held
  pub later : All (λ p. IsPrefix p.seen log) (free ++ held)
  pub own : All (λ p. events_of p.number log ≡ p.mine) (free ++ held)
  pub alone : All (IsOfOne (free ++ held)) log

-- a seat that goes from pass to pass: the history that it has seen is of passes of the store
pub record IsCourier (m : SeatState) : Type 0 where
  pub off : m.0.turn ≡ false
  pub alone : IsOfPasses m.0.passes m.0.seen

-- the pass is of the table at which the courier sits, and the courier knows how many passes that
-- has
pub record IsBeside (table : TableId) (passes : ℕ) (p : Known) : Type 0 where
  pub table_is : p.store.table ≡ table
  pub passes_is : p.store.passes ≡ passes

-- the courier has now seen a history that begins with what it had seen
pub record GoesOn (m m' : SeatState) : Type 0 where
  pub courier : IsCourier m'
  pub passes_is : m'.0.passes ≡ m.0.passes
  pub later : IsPrefix m.0.seen m'.0.seen
