-- Which rows a version reaches, beside the rows that stand for its tree.
use Rattle.std.specs.Prelude.{◌≡◌, ◌↔◌, ℕ, true, List, map, slice_set}
pub use Rattle.mst_arena.specs.Lives.{IsPast, IsSettled}
use Rattle.mst_arena.specs.Lives.{State, next, reaches, swept_life}
use Rattle.mst_arena.specs.declared.life.Life.{Life}
use Rattle.mst_arena.specs.Lists.{In}
use Rattle.mst_path.specs.Changing.{AreTaken, AreKilled, OthersLive, SameVersions}

-- a version reaches exactly these rows
abbrev pub ReachesExactly : List Life → ℕ → List ℕ → Type 0
ReachesExactly lives v rows = (r : ℕ) → reaches lives v r ≡ true ↔ In r rows

-- one of these versions reaches the row
abbrev pub IsReached : List Life → List ℕ → ℕ → Type 0
IsReached lives live r = (v : ℕ) × In v live × (reaches lives v r ≡ true)

-- these versions together reach exactly these rows
abbrev pub TogetherReach : List Life → List ℕ → List ℕ → Type 0
TogetherReach lives live rows = (r : ℕ) → IsReached lives live r ↔ In r rows

-- ---- the steps of a desk

-- A put or a remove, by the rows that stand before it and those that stand after it: it took those
-- that are new, killed those that are left, and did nothing else.
pub record Changes (old new : State) (before after : List ℕ) : Type 0 where
  pub taken : AreTaken old new before after
  pub killed : AreKilled old new before after
  pub others : OthersLive old new before after
  pub versions : SameVersions old new

-- the version to come becomes the current one, in a record
abbrev pub advanced : ℕ → State → State
advanced into s = record s { current = into; versions = slice_set s.versions into (next s) }

-- the dead rows that none of these versions reaches become free
abbrev pub swept_by : List ℕ → State → State
swept_by live s = record s { lives = map (swept_life live) s.lives }
