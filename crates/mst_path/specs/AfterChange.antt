-- What the caller learns of a change, of which the map after it is a function of the map before it.
use Rattle.mst_key.specs.declared.format.Format.{Format}
use Rattle.std.specs.Prelude.{◌≡◌, ◌+◌, List}
use Rattle.mst_key.specs.Map.{Pair}
use Rattle.mst_node.specs.Cost.{cost}
use Rattle.mst_arena.specs.Content.{Content}
use Rattle.mst_arena.specs.Lives.{State, free_count}
use Rattle.mst_arena.specs.declared.row.Root.{Root}
use Rattle.mst_arena.specs.Standing.{Stands, numbers}
use Rattle.mst_path.specs.Changing.{OnlyFreeWritten, SameVersions}
use Rattle.mst_path.specs.Made.{IsMade}
use Rattle.mst_path.specs.Reached.{Changes}

-- Of each map that stood: the changed one stands, on as many more rows as the nodes that are new
-- have entries and heads; which rows were taken and killed; and the rows of a node are of one age,
-- with all below it from before or all new.
pub record AfterChange (format : Format) (c c1 : Content) (s s1 : State) (root at : Root)
    (change : List Pair → List Pair) : Type 0 where
  pub stands : (m : List Pair) → Stands format c root m → Stands format c1 at (change m)
  pub written : OnlyFreeWritten s c c1
  pub counted : (m : List Pair) → Stands format c root m → free_count s1.lives + cost format m
      (change m) ≡ free_count s.lives
  pub changes : (m n : List Pair) (o : Stands format c root m) (w : Stands format c1 at n)
      → Changes s s1 (numbers o) (numbers w)
  pub versions : SameVersions s s1
  pub made : (n : List Pair) (w : Stands format c1 at n) → IsMade s1 w.tree.placed
