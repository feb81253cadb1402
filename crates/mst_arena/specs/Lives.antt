-- The births and deaths of rows, which version reaches which row, and what a desk knows.
use Rattle.std.specs.Prelude.{◌≡◌, ◌≤◌, ◌+◌, ◌^◌, ◌-◌, ℕ, Bool, true, false, ◌&&◌, nat_le, nat_lt, if◌then◌else◌, List, count_by, slice_set, slice_get, slice_index, Option, Some, None}
use Rattle.std.specs.List.{list_any}
use Rattle.mst_arena.specs.declared.life.Life.{Life}
use Rattle.mst_arena.specs.declared.life.Life.TheVariants.{Free, Born, Dead}

-- whether a version reaches a row of this life
abbrev pub reaches_life : Life → ℕ → Bool
reaches_life Free v = false
reaches_life (Born b) v = nat_le b v
reaches_life (Dead b d) v = nat_le b v && nat_lt v d

abbrev pub reached_at : Option Life → ℕ → Bool
reached_at None v = false
reached_at (Some life) v = reaches_life life v

-- whether a version reaches a row, by the lives of the rows
abbrev pub reaches : List Life → ℕ → ℕ → Bool
reaches lives v row = reached_at (slice_get lives row) v

abbrev pub is_free : Life → Bool
is_free Free = true
is_free (Born b) = false
is_free (Dead b d) = false

-- how many rows are free
abbrev pub free_count : List Life → ℕ
free_count lives = count_by is_free lives

-- what a sweep leaves of a life: a dead row that no live version reaches is free
abbrev pub swept_life : List ℕ → Life → Life
swept_life live Free = Free
swept_life live (Born b) = Born b
swept_life live (Dead b d) = if list_any (reaches_life (Dead b d)) live then Dead b d else Free

-- the life of a row that was born, once it dies with a version
abbrev pub ended_life : ℕ → Option Life → Life
ended_life d None = Free
ended_life d (Some Free) = Free
ended_life d (Some (Born b)) = Dead b d
ended_life d (Some (Dead b e)) = Dead b e

-- the versions that are asked about reach the same rows
abbrev pub SameReach : (ℕ → Type 0) → List Life → List Life → Type 0
SameReach IsAsked old new = (v row : ℕ) → IsAsked v → reaches new v row ≡ reaches old v row

-- ---- the desk

-- what a desk knows: the record of the current version, the version number of each record, and the
-- life of each row
pub record State : Type 0 where
  pub current : ℕ
  pub versions : List ℕ
  pub lives : List Life

-- the number of the current version, and of the one that a write makes
abbrev pub version : State → ℕ
version s = slice_index s.versions s.current

abbrev pub next : State → ℕ
next s = version s + 1

-- the last version number
abbrev pub last_version : ℕ
last_version = 2 ^ 63 - 1

-- the desk with another life of a row
abbrev pub with_life : State → ℕ → Life → State
with_life s row life = record s { lives = slice_set s.lives row life }

-- a row was born with a version or an earlier one; if it is dead, it died with that version or an
-- earlier one
abbrev pub IsPast : ℕ → Option Life → Type 0
IsPast v None = Unit {0}
IsPast v (Some Free) = Unit {0}
IsPast v (Some (Born b)) = b ≤ v
IsPast v (Some (Dead b d)) = d ≤ v

-- no write is under way: no row was born or died with the version to come
abbrev pub IsSettled : State → Type 0
IsSettled s = (r : ℕ) → IsPast (version s) (slice_get s.lives r)
