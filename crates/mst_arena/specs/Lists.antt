-- Lists that have each dead row once, and what a desk keeps.
use Rattle.std.specs.Prelude.{◌≡◌, ◌≤◌, ◌<◌, ◌+◌, ◌^◌, ℕ, Bool, true, false, eqb, nat_lt, ◌&&◌, List, [], ◌∷◌, ◌++◌, length, map, slice_get, slice_index, Option, Some, None}
use Rattle.std.specs.List.{list_any}
use Rattle.mst_arena.specs.declared.life.Life.{Life}
use Rattle.mst_arena.specs.declared.life.Life.TheVariants.{Free, Born, Dead}
use Rattle.mst_arena.specs.Limits.{most_rows}
use Rattle.mst_arena.specs.Lives.{is_free, reaches_life, swept_life}

abbrev pub is_dead : Life → Bool
is_dead Free = false
is_dead (Born b) = false
is_dead (Dead b d) = true

abbrev pub bit : Bool → ℕ
bit true = 1
bit false = 0

abbrev pub is_at : (Life → Bool) → Option Life → Bool
is_at is None = false
is_at is (Some life) = is life

-- how often a number stands in a list
abbrev pub times : ℕ → List ℕ → ℕ
times r [] = 0
times r (x ∷ xs) = bit (eqb r x) + times r xs

-- the number stands in the list
abbrev pub In : ℕ → List ℕ → Type 0
In r rows = 0 < times r rows

-- the list has a row once if its life is of the kind, and otherwise not
abbrev pub Lists : (Life → Bool) → List Life → List ℕ → Type 0
Lists is lives rows = (r : ℕ) → times r rows ≡ bit (is_at is (slice_get lives r))

-- a sweep leaves alone each row that is not in the list
abbrev pub StayBut : List ℕ → List Life → List ℕ → Type 0
StayBut live lives rows =
    (r : ℕ) (x : Life) → slice_get lives r ≡ Some x → times r rows ≡ 0 → swept_life live x ≡ x

-- each row of the list is reached by one of these versions
abbrev pub AllReached : List ℕ → List Life → List ℕ → Type 0
AllReached live lives rows = (r : ℕ) (x : Life) → slice_get lives r ≡ Some x → In r rows
    → list_any (reaches_life x) live ≡ true

-- none of these versions is below the number
abbrev pub IsLowest : ℕ → List ℕ → Type 0
IsLowest n live = (i : ℕ) → i < length live → n ≤ slice_index live i

-- a newer version than this is among them
abbrev pub is_older : List ℕ → ℕ → Bool
is_older live v = list_any (λ w. nat_lt v w) live

-- each row of the list is reached by one of these versions that is not the newest of them
abbrev pub AllOlder : List ℕ → List Life → List ℕ → Type 0
AllOlder live lives rows = (r : ℕ) (x : Life) → slice_get lives r ≡ Some x → In r rows
    → list_any (λ v. reaches_life x v && is_older live v) live ≡ true

-- what a desk keeps: the free rows; each dead row in one of two lists; and in the second of these
-- only rows that a version reaches which the last sweep remembered
pub record IsDesk (current : ℕ) (versions : List ℕ) (lives : List Life) (free : List Bool)
    (dead held last : List ℕ) (versions_cap lives_cap dead_cap held_cap last_cap : ℕ) : Type 0 where
  pub there : current < length versions
  pub small : slice_index versions current < 2 ^ 63
  pub few : length lives ≤ most_rows
  pub free_rows : free ≡ map is_free lives
  pub dead_rows : Lists is_dead lives (dead ++ held)
  pub reached : AllReached last lives held
  -- each list has the room that it was made with, so none has grown
  pub versions_room : versions_cap ≡ length versions
  pub lives_room : lives_cap ≡ length lives
  pub dead_room : dead_cap ≡ length lives
  pub held_room : held_cap ≡ length lives
  pub last_room : last_cap ≡ length versions
