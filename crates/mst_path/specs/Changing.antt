-- What a put or a remove does to rows and to their lives, by the rows that stand before it and
-- those that stand after it.
use Rattle.mst_key.specs.declared.format.Format.{Format}
use Rattle.std.specs.Prelude.{◌≡◌, ◌≢◌, ◌↔◌, ℕ, List, slice_get, Some}
use Rattle.mst_key.specs.Map.{Pair}
use Rattle.mst_arena.specs.Content.{Content}
use Rattle.mst_arena.specs.Lives.{State, next}
use Rattle.mst_arena.specs.Lists.{In, times}
use Rattle.mst_arena.specs.declared.life.Life.TheVariants.{Free, Born}
use Rattle.mst_arena.specs.declared.row.Root.{Root}
use Rattle.mst_arena.specs.Standing.{Stands, numbers}
use Rattle.mst_path.specs.Moves.{IsOld, IsKilled}

-- each of these rows was born with the current version or an earlier one, and is not dead
abbrev pub AreOld : State → List ℕ → Type 0
AreOld s rows = (r : ℕ) → In r rows → IsOld s r

-- a map stands at the root, on rows of the current version and earlier ones
abbrev pub MapStands : (format : Format) → Content → State → Root → Type 0
MapStands format content s at =
    (m : List Pair) × (stands : Stands format content at m) × AreOld s (numbers stands)

-- the row is one of the first list alone
abbrev pub IsOnlyIn : ℕ → List ℕ → List ℕ → Type 0
IsOnlyIn r rows others = In r rows × (times r others ≡ 0)

-- the row was taken: it was free, and is born with the version to come
abbrev pub IsTaken : State → State → ℕ → Type 0
IsTaken old new r =
    (slice_get old.lives r ≡ Some Free) × (slice_get new.lives r ≡ Some (Born (next old)))

-- the rows that were taken are those that stand after the change alone
abbrev pub AreTaken : State → State → List ℕ → List ℕ → Type 0
AreTaken old new before after = (r : ℕ) → IsTaken old new r ↔ IsOnlyIn r after before

-- the rows that were killed are those that stand before the change alone
abbrev pub AreKilled : State → State → List ℕ → List ℕ → Type 0
AreKilled old new before after = (r : ℕ) → IsKilled old new r ↔ IsOnlyIn r before after

-- each row that stands both before and after the change, or neither, has the life that it had
abbrev pub OthersLive : State → State → List ℕ → List ℕ → Type 0
OthersLive old new before after =
    (r : ℕ) → (In r before ↔ In r after) → slice_get new.lives r ≡ slice_get old.lives r

-- only rows that were free are written
abbrev pub OnlyFreeWritten : State → Content → Content → Type 0
OnlyFreeWritten s old new = (r : ℕ) → slice_get s.lives r ≢ Some Free → new r ≡ old r

-- the current version and the versions of all records are as before
abbrev pub SameVersions : State → State → Type 0
SameVersions old new = (new.current ≡ old.current) × (new.versions ≡ old.versions)
