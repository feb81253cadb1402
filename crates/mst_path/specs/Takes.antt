-- Rows that a write takes, and the rows that it leaves alone.
use Rattle.std.specs.Prelude.{◌≡◌, ◌≢◌, ◌≤◌, ℕ, Bool, IsTrue, List, [], ◌∷◌, length, slice_get, slice_set, Some}
use Rattle.std.specs.List.{AllByRecursion}
use Rattle.mst_arena.specs.Limits.{most_rows}
use Rattle.mst_arena.specs.Content.{Content}
use Rattle.mst_arena.specs.Lives.{State, next}
use Rattle.mst_arena.specs.Standing.{IsDistinct}
use Rattle.mst_arena.specs.declared.life.Life.{Life}
use Rattle.mst_arena.specs.declared.life.Life.TheVariants.{Free, Born}

-- lives in which these rows were born with a version
abbrev pub born_with : ℕ → List ℕ → List Life → List Life
born_with version [] lives = lives
born_with version (r ∷ rows) lives = born_with version rows (slice_set lives r (Born version))

-- these rows were taken and nothing else was done: each was free, none was taken twice, and they
-- were born with the version to come
pub record Takes (old new : State) (rows : List ℕ) : Type 0 where
  pub free : AllByRecursion (λ r. slice_get old.lives r ≡ Some Free) rows
  pub once : IsDistinct rows
  pub born : new ≡ record old { lives = born_with (next old) rows old.lives }

-- the number is none of these
abbrev pub IsOut : ℕ → List ℕ → Type 0
IsOut k rows = AllByRecursion (λ r. k ≢ r) rows

-- the content is as before but for these rows
abbrev pub KeepsBut : List ℕ → Content → Content → Type 0
KeepsBut rows old new = (k : ℕ) → IsOut k rows → new k ≡ old k

-- the free rows may be written
abbrev pub FreeIsBlank : List Life → (ℕ → Bool) → Type 0
FreeIsBlank lives blank = (k : ℕ) → slice_get lives k ≡ Some Free → IsTrue (blank k)

-- so few rows that the link to each, its number and one, fits into 16 bits
abbrev pub FewRows : List Life → Type 0
FewRows lives = length lives ≤ most_rows

-- Rows may be taken and written: each has a link, and the free ones are blank.
pub record RowsAreWritable (lives : List Life) (blank : ℕ → Bool) : Type 0 where
  pub few : FewRows lives
  pub free : FreeIsBlank lives blank

-- what the holder of rows is beside their content stays: which rows are blank, and what it keeps
abbrev pub StaysBeside : {S K : Type 0} → (S → ℕ → Bool) → (S → K) → S → S → Type 0
StaysBeside blank kept old new = (blank new ≡ blank old) × (kept new ≡ kept old)
