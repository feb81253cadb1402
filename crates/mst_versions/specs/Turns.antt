-- What the holder of the turn has at hand, from the turn's taking to the publication of the next
-- version.
use Rattle.std.specs.Prelude.{◌≡◌, ◌≢◌, ◌↔◌, ℕ, ◌+◌, ◌<◌, ◌≤◌, IsTrue, true, false, List, [], ◌∷◌, ◌++◌, length, slice_get, slice_index, Option, Some, None}
use Rattle.atomic_table.specs.Table.{Me}
use Rattle.mst_key.specs.declared.format.Format.{Format}
use Rattle.mst_key.specs.declared.history.Event.{Event}
use Rattle.mst_key.specs.History.{History, after, format_after, events_of, IsPrefix}
use Rattle.mst_node.specs.Stays.{held}
use Rattle.mst_arena.specs.Lives.{State, version, next, last_version, free_count, IsSettled}
use Rattle.mst_arena.specs.Standing.{IsDistinct, Stands, numbers}
use Rattle.mst_arena.specs.declared.life.Life.{Life}
use Rattle.mst_arena.specs.declared.life.Life.TheVariants.{Free}
use Rattle.mst_arena.specs.declared.row.Root.{Root}
use Rattle.mst_arena.specs.Lists.{In}
use Rattle.mst_arena.specs.Ages.{HasAges}
use Rattle.mst_path.specs.Takes.{FreeIsBlank}
use Rattle.mst_path.specs.Reached.{ReachesExactly, TogetherReach, advanced}
use Rattle.mst_words.specs.declared.view.View.{View}
use Rattle.mst_words.specs.Access.{content_of, may_write}
use Rattle.mst_words.specs.Layout.{most_passes, table_words}
use Rattle.mst_words.specs.Notes.{IsOfPasses}
use Rattle.mst_words.specs.Records.{field, Standing, Agrees}
use Rattle.mst_words.specs.Steps.{IsHolder, Misses, Takes}
use Rattle.mst_words.specs.Stored.{stored, desk_state, root_in, format_number}
use Rattle.mst_versions.specs.declared.turn.Turn.{Turn}
use Rattle.mst_versions.specs.declared.turn.BeginFault.{BeginFault}
use Rattle.mst_versions.specs.declared.turn.BeginFault.TheVariants.{Busy, VersionsSpent}

-- what a seat knows, and what it has of the slot
abbrev pub SeatState : Type 0
SeatState = Me (Option State) View

-- The desk is out of the slot. It says of each record that was not found drained, that its version
-- reaches the same rows as when the turn was taken. No record has a later version than the current
-- one. The record to come is one that was found drained
pub record HoldsDesk {A : Type 0} (t : Turn A) (m : SeatState) : Type 0 where
  pub holder : IsHolder m
  pub slot : m.1 ≡ (0, None) ∷ []
  pub known : length m.0.known_words ≡ table_words m.0.rows
  pub few : m.0.passes ≤ most_passes
  pub short : length m.0.seen ≤ last_version
  pub current : t.desk.current ≡ m.0.desk.current
  pub rows_is : length t.desk.lives ≡ m.0.rows
  pub records : length t.desk.versions ≡ m.0.passes + 2
  pub version_is : version t.desk ≡ length m.0.seen
  pub earlier : (r : ℕ) → r < m.0.passes + 2 → slice_index t.desk.versions r ≤ version t.desk
  pub agrees : (r : ℕ) → r < m.0.passes + 2 → (In r m.0.drained → ⊥)
      → Agrees (stored m.0.format) m.0.desk (desk_state t.desk) r
  pub into_drained : In t.into m.0.drained
  pub into_in : t.into < m.0.passes + 2
  pub into_other : t.into ≢ t.desk.current

-- the record stood for the map at a place of the history that the holder of the turn knows
abbrev pub StoodAtAsk : ℕ → View → Type 0
StoodAtAsk r v = (place : History) × (used : List ℕ)
    × Standing (stored v.format) v.rows v.passes v.known_words v.seen v.desk r place used

-- the version is that of a record that was not found drained
abbrev pub IsLiveVersion : State → View → ℕ → Type 0
IsLiveVersion desk v n =
    (r : ℕ) × (r < v.passes + 2) × (In r v.drained → ⊥) × (n ≡ slice_index desk.versions r)

-- these are all versions that are live, in any order
abbrev pub AreLiveVersions : State → View → List ℕ → Type 0
AreLiveVersions desk v live = (n : ℕ) → In n live ↔ IsLiveVersion desk v n

-- Of the history this many versions are live: the last one, and those that were found pinned, none
-- of them above it. All rows are free but those that they hold. The format is that of version 0
pub record LeavesFree (first : Format) (lives : List Life)
    (log : History) (found : List ℕ) (live rows : ℕ) : Type 0 where
  pub below : (v : ℕ) → In v found → v ≤ length log
  pub as_many : length found + 1 ≡ live
  pub left : free_count lives + held first log (length log ∷ found) ≡ rows

-- The map of the whole history stands at the root, in the format that the history leaves, on
-- exactly the rows that the current version reaches, and no write is under way. The rows that may
-- be written are free, and no others: all rows but those that the versions together reach that are
-- live: the current one and those of the records that were found pinned, each of which stood for a
-- map. These are fewer than the passes, and their number is known; what they hold is not free, and
-- all else is. The age of each row of the map is known
pub record HasTurn {A : Type 0} (t : Turn A) (m : SeatState) : Type 0 where
  pub holds : HoldsDesk t m
  pub settled : IsSettled t.desk
  pub format : t.format ≡ format_after m.0.format m.0.seen
  pub stands : Stands t.format (content_of m.0) t.root (after m.0.seen)
  pub reached : ReachesExactly t.desk.lives (version t.desk) (numbers stands)
  pub aged : HasAges m.0.format t.desk.lives m.0.seen stands.tree.placed
  pub blank : FreeIsBlank t.desk.lives (may_write m.0)
  pub free : (x : ℕ) → IsTrue (may_write m.0 x) → slice_get t.desk.lives x ≡ Some Free
  pub live : (r : ℕ) → r < m.0.passes + 2 → (In r m.0.drained → ⊥) → r ≢ t.desk.current
      → In r m.0.blocked
  pub stood : (r : ℕ) → In r m.0.blocked → StoodAtAsk r m.0
  pub now : IsLiveVersion t.desk m.0 (version t.desk)
  pub fewer : length m.0.blocked < m.0.passes
  pub number : t.live ≡ length m.0.blocked + 1
  pub there : t.desk.current < m.0.passes + 2
  pub count : (live rows : List ℕ) → AreLiveVersions t.desk m.0 live → IsDistinct rows
      → TogetherReach t.desk.lives live rows
      → free_count t.desk.lives + length rows ≡ m.0.rows
  pub leaves : LeavesFree m.0.format t.desk.lives m.0.seen m.0.found t.live m.0.rows

-- the turn was taken, and the desk out of the slot
abbrev pub TakesDesk : SeatState → State → SeatState → Type 0
TakesDesk before desk m = (taken : SeatState) × Takes (stored before.0.format) before taken
    × (taken.1 ≡ (0, Some desk) ∷ []) × (m ≡ (taken.0, (0, None) ∷ []))

-- The turn was taken, by one try of a pass of the store, and each record but the current one was
-- asked once. The whole history begins with all that the pass had seen, its events there are its
-- own, and each event is of a pass of the store. Nothing else changed
pub record Begun {A : Type 0} (m : SeatState) (t : Turn A) (m' : SeatState) : Type 0 where
  pub later : IsPrefix m.0.seen m'.0.seen
  pub own : events_of m.0.number m'.0.seen ≡ m.0.mine
  pub alone : IsOfPasses m.0.passes m'.0.seen
  pub dealt : (0 < m.0.number) × (m.0.number ≤ m.0.passes)
  pub has : HasTurn t m'
  pub rest : m'.0 ≡ record m.0 {
    seen = m'.0.seen;
    known_words = m'.0.known_words;
    turn = true;
    desk = m'.0.desk;
    due = None;
    mask = 0;
    drained = m'.0.drained;
    blocked = m'.0.blocked;
    noted = None;
    found = m'.0.found;
    asked = m'.0.asked;
  }
  pub asked : m'.0.asked ≡ m.0.asked + m.0.passes + 2

-- The turn was taken, by one try, and given back, since the last version number is spent; no record
-- was asked. The pass has seen the whole history, in which each event is of a pass of the store
pub record Spent (m m' : SeatState) : Type 0 where
  pub later : IsPrefix m.0.seen m'.0.seen
  pub own : events_of m.0.number m'.0.seen ≡ m.0.mine
  pub alone : IsOfPasses m.0.passes m'.0.seen
  pub spent : length m'.0.seen ≡ last_version
  pub rest : m' ≡ (
    record m.0 {
      seen = m'.0.seen;
      known_words = m'.0.known_words;
      turn = false;
      desk = m'.0.desk;
      due = None;
      mask = 0;
      drained = [];
      blocked = [];
      noted = None;
      found = [];
      asked = m.0.asked + 1;
    },
    [],
  )

-- what holds if no write is begun
abbrev pub FailsToBegin : BeginFault → SeatState → SeatState → Type 0
FailsToBegin Busy m m' = Misses m m'
FailsToBegin VersionsSpent m m' = Spent m m'

-- A change is made, and not yet published: the map of the history with the event stands at a root,
-- in the format that the event leaves, on exactly the rows that the version to come reaches, and
-- the age of each is known
pub record HasMade {A : Type 0} (t : Turn A) (root : Root) (format : Format)
    (e : Event) (m : SeatState) : Type 0 where
  pub holds : HoldsDesk t m
  pub mine : e.pass ≡ m.0.number
  pub room : length m.0.seen < last_version
  pub format_is : format ≡ format_after m.0.format (m.0.seen ++ e ∷ [])
  pub stands : Stands format (content_of m.0) root (after (m.0.seen ++ e ∷ []))
  pub reached : ReachesExactly t.desk.lives (next t.desk) (numbers stands)
  pub aged : HasAges m.0.format t.desk.lives (m.0.seen ++ e ∷ []) stands.tree.placed
  pub settled : IsSettled (advanced t.into t.desk)

-- the change of an event that was made is made still
abbrev pub StaysMade : {A : Type 0} → Turn A → Root → Format → SeatState → SeatState → Type 0
StaysMade t root format m m' =
    (e : Event) → HasMade t root format e m → HasMade t root format e m'

-- The record to come is filled: its words are the number of the version to come, where the map
-- stands, and the format. Nobody reads them before that version is published
pub record IsFilled {A : Type 0} (t : Turn A) (root : Root) (format : Format)
    (m : SeatState) : Type 0 where
  pub version : field m.0.known_words t.into 0 ≡ next t.desk
  pub root_is : root_in (field m.0.known_words t.into) ≡ root
  pub number : field m.0.known_words t.into 6 ≡ format_number format

-- The change of an event is made, and the record to come is filled: one swap is left
abbrev pub CanPublish : {A : Type 0} → Turn A → Event → SeatState → Type 0
CanPublish t e m =
    (root : Root) × (format : Format) × HasMade t root format e m × IsFilled t root format m

-- The turn was given back, and the history has the event after what the pass had seen. One step was
-- counted, the publication
pub record Added (e : Event) (m m' : SeatState) : Type 0 where
  pub seen : m'.0.seen ≡ m.0.seen ++ e ∷ []
  pub mine : m'.0.mine ≡ m.0.mine ++ e ∷ []
  pub found : m'.0.found ≡ m.0.found
  pub asked : m'.0.asked ≡ m.0.asked + 1
  pub missed : m'.0.missed ≡ m.0.missed
  pub free : (m'.1 ≡ []) × (m'.0.turn ≡ false) × (m'.0.pin ≡ None)
      × (m'.0.number ≡ m.0.number) × (m'.0.rows ≡ m.0.rows) × (m'.0.passes ≡ m.0.passes)
      × (m'.0.format ≡ m.0.format) × (m'.0.told ≡ m.0.told)
