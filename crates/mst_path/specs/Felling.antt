-- A tree that stands and is to go: all its rows die.
use Rattle.std.specs.Prelude.{◌≡◌, ◌≤◌, ℕ}
use Rattle.mst_key.specs.Map.{Pair}
use Rattle.mst_key.specs.declared.format.Format.{Format}
use Rattle.std.specs.Prelude.{List}
use Rattle.mst_node.specs.Tree.{IsMst}
use Rattle.mst_arena.specs.Content.{Content}
use Rattle.mst_arena.specs.Lives.{State}
use Rattle.mst_arena.specs.Lists.{In, times}
use Rattle.mst_arena.specs.declared.row.Root.{Root}
use Rattle.mst_arena.specs.Standing.{Placed, tree_of, link_of, rows_of, used, HasRows, Stands, numbers}
use Rattle.mst_path.specs.Moves.{IsOld}
use Rattle.mst_path.specs.Changing.{AreOld}

-- A search tree of a format stands at the link, on rows of the current version and older ones, and
-- no row stands twice in it.
pub record ToFell (content : Content) (s : State) (link : ℕ) : Type 0 where
  pub format : Format
  pub placed : Placed
  pub at : link_of placed ≡ link
  pub rows : HasRows content (rows_of format placed)
  pub old : (r : ℕ) → In r (used placed) → IsOld s r
  pub search : IsMst format (tree_of format placed)
  pub once : (x : ℕ) → times x (used placed) ≤ 1

-- a map stands at the root in some format, on rows of the current version and earlier ones
abbrev pub MayFall : Content → State → Root → Type 0
MayFall content s at = (f : Format) × (m : List Pair) × (stands : Stands f content at m)
    × AreOld s (numbers stands)
