-- What a change of the tree does to the lives of rows: it takes rows that are free, and kills rows
-- that were born with an older version.
use Rattle.std.specs.Prelude.{◌≡◌, ◌≤◌, ◌+◌, ℕ, List, length, slice_get, Some}
use Rattle.mst_arena.specs.Lives.{State, version, next, free_count}
use Rattle.mst_arena.specs.Lists.{In, times}
use Rattle.mst_arena.specs.declared.life.Life.TheVariants.{Free, Born, Dead}

-- the row is alive
abbrev pub IsAlive : State → ℕ → Type 0
IsAlive s r = (b : ℕ) × (slice_get s.lives r ≡ Some (Born b))

-- the row is alive, and is of the current version or an older one
abbrev pub IsOld : State → ℕ → Type 0
IsOld s r = (b : ℕ) × (slice_get s.lives r ≡ Some (Born b)) × (b ≤ version s)

-- the row was born with the version to come
abbrev pub IsNew : State → ℕ → Type 0
IsNew s r = slice_get s.lives r ≡ Some (Born (next s))

-- the row was killed: it dies with the version to come
abbrev pub IsKilled : State → State → ℕ → Type 0
IsKilled old new r = (b : ℕ) × (slice_get old.lives r ≡ Some (Born b)) × (b ≤ version old)
    × (slice_get new.lives r ≡ Some (Dead b (next old)))

-- These rows were taken, each once, and those were killed; every other row has the life that it
-- had.
pub record Moves (old new : State) (taken killed : List ℕ) : Type 0 where
  pub current : new.current ≡ old.current
  pub versions : new.versions ≡ old.versions
  pub rows : length new.lives ≡ length old.lives
  pub once : (r : ℕ) → times r taken ≤ 1
  pub free : (r : ℕ) → In r taken → slice_get old.lives r ≡ Some Free
  pub born : (r : ℕ) → In r taken → slice_get new.lives r ≡ Some (Born (next old))
  pub killed_once : (r : ℕ) → times r killed ≤ 1
  pub dies : (r : ℕ) → In r killed → IsKilled old new r
  pub others : (r : ℕ) → times r taken ≡ 0 → times r killed ≡ 0
      → slice_get new.lives r ≡ slice_get old.lives r
  pub room : free_count new.lives + length taken ≡ free_count old.lives
