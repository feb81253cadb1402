-- A write: what the holder of the turn makes of the map in free rows, what the pass then knows, and
-- why a change is refused.
use Rattle.std.specs.Prelude.{◌≡◌, ℕ, ◌+◌, ◌<◌, ◌≤◌, List, [], ◌∷◌, ◌++◌, length, Option, Some, Contains}
use Rattle.mst_key.specs.Map.{Pair}
use Rattle.mst_key.specs.declared.format.Format.{Format}
use Rattle.mst_key.specs.declared.history.Change.{Change}
use Rattle.mst_key.specs.declared.history.Event.{Event}
use Rattle.mst_key.specs.History.{History, after, changed, format_after, changed_format, Reply, reply, events_of, IsPrefix}
use Rattle.mst_node.specs.Tree.{tree}
use Rattle.mst_node.specs.Cost.{new_rows}
use Rattle.mst_node.specs.Stays.{held}
use Rattle.mst_arena.specs.Lives.{free_count, last_version}
use Rattle.mst_arena.specs.declared.row.Root.{Root}
use Rattle.mst_path.specs.Planting.{node_count}
use Rattle.mst_words.specs.Access.{Seated}
use Rattle.mst_words.specs.Notes.{IsOfPasses}
use Rattle.mst_versions.specs.declared.turn.Turn.{Turn}
use Rattle.mst_versions.specs.declared.faults.WriteFault.{WriteFault}
use Rattle.mst_versions.specs.declared.faults.WriteFault.TheVariants.{Busy, VersionsSpent, NoRoom}
use Rattle.mst_versions.specs.Known.{Known, known, IsSamePass, Looks, FindsBusy, format_seen, made_by}
use Rattle.mst_versions.specs.Turns.{SeatState, HasMade}

-- the event of a change that the pass at this seat makes
abbrev pub made_at_seat : SeatState → Change → Event
made_at_seat m change = record { pass = m.0.number; change = change }

-- how many rows a map takes in a format: one for each key and one for each node of its tree
abbrev pub rows_of : Format → List Pair → ℕ
rows_of format m = length m + node_count (tree format m)

-- how many rows a change takes: one for each entry and each node of the tree after it that do not
-- stand in the tree before it
abbrev pub rows_taken : Format → List Pair → Change → ℕ
rows_taken format m change =
    new_rows (tree format m) (tree (changed_format format change) (changed m change))

-- The change is made in free rows, as many as it takes, and can be published. Of what the seat
-- knows only the words of those rows have changed. The answer is what the history replies
pub record Made {A : Type 0} (change : Change) (t : Turn A) (m : SeatState)
    (root : Root) (answered : Reply) (t' : Turn A) (m' : SeatState) : Type 0 where
  pub has : HasMade t' root (changed_format t.format change) (made_at_seat m change) m'
  pub answer : answered ≡ reply m.0.format m.0.seen (made_at_seat m change)
  pub rows : free_count t'.desk.lives + rows_taken t.format (after m.0.seen) change
      ≡ free_count t.desk.lives
  pub kept : m' ≡ (record m.0 { known_words = m'.0.known_words }, m.1)

-- the versions that were found pinned are fewer than n, and none is above the last one
pub record AreFound (n : ℕ) (log : History) (found : List ℕ) : Type 0 where
  pub few : length found < n
  pub below : (v : ℕ) → Contains found v → v ≤ length log

-- what the last version holds in rows together with those that were found pinned. The format is
-- that of version 0, here and below
abbrev pub rows_held : Format → History → List ℕ → ℕ
rows_held first log found = held first log (length log ∷ found)

-- how many rows a change takes after a history
abbrev pub rows_needed : Format → History → Change → ℕ
rows_needed first log change = rows_taken (format_after first log) (after log) change

-- the change finds room among the rows next to what the live versions hold
pub record FindsRoom (first : Format) (rows passes : ℕ)
    (log : History) (found : List ℕ) (change : Change) : Type 0 where
  pub are : AreFound passes log found
  pub fits : rows_held first log found + rows_needed first log change ≤ rows

-- The live versions hold too many of the rows for the change, which takes some; what they hold is
-- there
pub record LacksRoomBeside (first : Format) (rows passes : ℕ)
    (log : History) (found : List ℕ) (change : Change) : Type 0 where
  pub are : AreFound passes log found
  pub fits : rows_held first log found ≤ rows
  pub costs : 0 < rows_needed first log change
  pub lacks : rows < rows_held first log found + rows_needed first log change

-- fewer rows are free than the change takes
abbrev pub LacksRows : {A : Type 0} → Change → Turn A → SeatState → Type 0
LacksRows change t m = free_count t.desk.lives < rows_taken t.format (after m.0.seen) change

-- at the seat is the same pass of the same store, which was told the same
abbrev pub KeepsPass : SeatState → SeatState → Type 0
KeepsPass m m' = (m'.0.number ≡ m.0.number) × (m'.0.rows ≡ m.0.rows)
    × (m'.0.passes ≡ m.0.passes) × (m'.0.format ≡ m.0.format) × (m'.0.told ≡ m.0.told)

-- Whether a change of a map in a format finds room among this many rows: the rows that the map
-- leaves over are enough for the nodes that the change makes new
abbrev pub HasRoom : ℕ → Format → List Pair → Change → Type 0
HasRoom rows format m change = rows_of format m + rows_taken format m change ≤ rows

abbrev pub LacksRoom : ℕ → Format → List Pair → Change → Type 0
LacksRoom rows format m change = rows < rows_of format m + rows_taken format m change

-- A write added its event right after a history that begins with all that the pass had seen, and
-- returned what that history replies. The pass has now seen both, its events there are its own, and
-- each event is of a pass of the store. The change found room next to the versions that were found
-- pinned. The pass tried the turn once and got it, asked each record but the current one once, and
-- published once. The version that it made is known
pub record Wrote (e : Event) (p : Known) (answered : Reply) (q : Known) : Type 0 where
  pub log : History
  pub same : IsSamePass p q
  pub later : IsPrefix p.seen log
  pub seen : q.seen ≡ log ++ e ∷ []
  pub answer : answered ≡ reply p.store.format log e
  pub mine : q.mine ≡ p.mine ++ e ∷ []
  pub own : events_of q.number q.seen ≡ q.mine
  pub alone : IsOfPasses q.store.passes q.seen
  pub numbered : length log < last_version
  pub room : HasRoom p.store.rows (format_after p.store.format log) (after log) e.change
  pub beside : FindsRoom p.store.format p.store.rows p.store.passes log q.found e.change
  pub asked : q.asked ≡ p.asked + p.store.passes + 3
  pub missed : q.missed ≡ p.missed
  pub made : q.made ≡ Some (length q.seen)

-- the pass at the seat made the change, and with it this version, whatever version it made before
abbrev pub WroteAtSeat : ℕ → Change → Seated → Reply → ℕ → Seated → Type 0
WroteAtSeat number change s answered version z = (made : Option ℕ)
    → Wrote (made_by (known number made s) change) (known number made s) answered
    (known number (Some version) z)

-- Why a change was refused. Nothing was added to the history. There is no room exactly if the last
-- version and those that were found pinned hold too many rows. In a store of one pass this means
-- that the rows that the map leaves over are too few
abbrev pub Refuses : WriteFault → Change → Known → Known → Type 0
Refuses Busy change p q = FindsBusy p q
Refuses VersionsSpent change p q =
    Looks p q × (length q.seen ≡ last_version) × (q.asked ≡ p.asked + 1) × (q.found ≡ [])
Refuses NoRoom change p q = Looks p q × (length q.seen < last_version)
    × (p.store.passes ≡ 1 → LacksRoom q.store.rows (format_seen q) (after q.seen) change)
    × (q.asked ≡ p.asked + p.store.passes + 2)
    × LacksRoomBeside p.store.format p.store.rows p.store.passes q.seen q.found change
