-- What the holder of the turn learns of the records other than the current one, as it asks them one
-- after another.
use Rattle.std.specs.Prelude.{◌≡◌, ◌≢◌, ◌⊎◌, ℕ, ◌+◌, ◌<◌, ◌≤◌, ◌∷◌, length, slice_index}
use Rattle.mst_arena.specs.Lives.{State, version}
use Rattle.mst_arena.specs.Lists.{In}
use Rattle.mst_words.specs.Layout.{most_passes}
use Rattle.mst_words.specs.Steps.{IsHolder}
use Rattle.mst_versions.specs.Turns.{SeatState, StoodAtAsk}
use Rattle.mst_versions.specs.declared.turn.Asked.{Asked}

-- the desk is that of the table, with a version for each of its records, and the table has a pass
pub record KnowsRecords (desk : State) (m : SeatState) : Type 0 where
  pub holder : IsHolder m
  pub some : 0 < m.0.passes
  pub few : m.0.passes ≤ most_passes
  pub current : m.0.desk.current ≡ desk.current
  pub there : desk.current < m.0.passes + 2
  pub records : length desk.versions ≡ m.0.passes + 2
  pub versions : m.0.desk.versions ≡ desk.versions

-- The records below n were asked, but for the current one. Each is drained, or it was pinned and
-- stood for a map, and its version is live; the current version is live too, and no other: they are
-- in the order in which they were found. Fewer are pinned than there are passes. The record to come
-- is drained, as soon as one is
pub record HasAsked (n : ℕ) (desk : State) (a : Asked) (m : SeatState) : Type 0 where
  pub knows : KnowsRecords desk m
  pub before : n ≤ desk.current → length m.0.drained + length m.0.blocked ≡ n
  pub behind : desk.current < n → length m.0.drained + length m.0.blocked + 1 ≡ n
  pub fewer : length m.0.blocked < m.0.passes
  pub room : length a.live.items ≡ length m.0.blocked + 1
  pub live : a.live.items ≡ version desk ∷ m.0.found
  pub blocked : (r : ℕ) → In r m.0.blocked → r < n
  pub drained : (r : ℕ) → In r m.0.drained → (r < n) × (r ≢ desk.current)
  pub now : In (version desk) a.live.items
  pub others : (r : ℕ) → r < n → r ≢ desk.current → (In r m.0.drained → ⊥)
      → In (slice_index desk.versions r) a.live.items
  pub only : (v : ℕ) → In v a.live.items → (v ≡ version desk)
      ⊎ ((r : ℕ) × (r < n) × (In r m.0.drained → ⊥) × (v ≡ slice_index desk.versions r))
  pub found : (r : ℕ) → r < n → r ≢ desk.current → (In r m.0.drained → ⊥) → In r m.0.blocked
  pub stood : (r : ℕ) → In r m.0.blocked → StoodAtAsk r m.0
  pub into : 0 < length m.0.drained → In a.into m.0.drained

-- only what was asked has changed
abbrev pub AsksOnly : SeatState → SeatState → Type 0
AsksOnly m m' =
    m' ≡ (
      record m.0 {
        drained = m'.0.drained;
        blocked = m'.0.blocked;
        found = m'.0.found;
        asked = m'.0.asked;
      },
      m.1,
    )

-- one question was counted for each record that was asked
abbrev pub AsksEach : SeatState → SeatState → Type 0
AsksEach m m' = m'.0.asked + length m.0.drained + length m.0.blocked
    ≡ m.0.asked + length m'.0.drained + length m'.0.blocked
