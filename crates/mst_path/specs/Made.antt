-- Which rows a change of the tree makes anew: those of whole nodes. So the rows of a node are of
-- one age.
use Rattle.std.specs.Prelude.{◌⊎◌, ℕ, List, [], ◌∷◌}
use Rattle.mst_arena.specs.Lives.{State}
use Rattle.mst_arena.specs.Standing.{Placed, none, head, Chain, end, cell, used}
use Rattle.mst_arena.specs.Lists.{In}
use Rattle.mst_path.specs.Moves.{IsOld, IsNew}
use Rattle.mst_path.specs.Writing.{PlacedEntry}

-- A placed tree stands on rows of the current version and older ones; or its own rows, of its head
-- and its entries, were born with the version to come, and the same is said of the tree in each of
-- its gaps.
abbrev mutual
  pub IsMade : State → Placed → Type 0
  IsMade s none = Unit {0}
  IsMade s (head at layer chain) =
      ((r : ℕ) → In r (used (head at layer chain)) → IsOld s r)
      ⊎ (IsNew s at × IsMadeChain s chain)

  pub IsMadeChain : State → Chain → Type 0
  IsMadeChain s (end child) = IsMade s child
  IsMadeChain s (cell at child key value rest) = IsNew s at × IsMade s child × IsMadeChain s rest

-- the same of entries that are written, with the trees before them
abbrev pub AreMade : State → List PlacedEntry → Type 0
AreMade s [] = Unit {0}
AreMade s (e ∷ es) = IsNew s e.at × IsMade s e.child × AreMade s es
