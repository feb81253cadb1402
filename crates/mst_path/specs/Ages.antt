-- The nodes of a tree that stands, each with its own rows, and the age of these rows.
use Rattle.std.specs.Prelude.{◌≡◌, ◌⊎◌, ℕ, false, List, take, Contains}
use Rattle.mst_key.specs.History.{History, format_after}
use Rattle.mst_key.specs.declared.format.Format.{Format}
use Rattle.mst_node.specs.Cost.{is_subtree}
use Rattle.mst_node.specs.Stays.{tree_at}
use Rattle.mst_arena.specs.Lives.{State}
use Rattle.mst_arena.specs.declared.life.Life.{Life}
use Rattle.mst_arena.specs.Standing.{Placed, tree_of, used, IsDistinct}
use Rattle.mst_arena.specs.Lists.{In}
use Rattle.mst_arena.specs.Ages.{placed_nodes, top_rows, HasAges}
use Rattle.mst_path.specs.Moves.{IsNew}
use Rattle.mst_path.specs.Reached.{ReachesExactly}

-- After a change of the tree from one format to another, which may be the same: the node stood in
-- the old tree, on the same rows and in the same format; or its tree did not stand there, and all
-- its rows are new.
abbrev pub IsAged : Format → Format → State → Placed → Placed → Type 0
IsAged f g new old p = ((f ≡ g) × Contains (placed_nodes old) p)
    ⊎ (((r : ℕ) → In r (top_rows p) → IsNew new r)
    × (is_subtree (tree_of g p) (tree_of f old) ≡ false))

-- A version of a history has its place in rows: they stand for its tree, the version reaches
-- exactly them, and their ages are known.
pub record HasPlace (first : Format) (lives : List Life) (h : History) (v : ℕ) : Type 0 where
  pub placed : Placed
  pub is : tree_of (format_after first (take v h)) placed ≡ tree_at first h v
  pub once : IsDistinct (used placed)
  pub rows : ReachesExactly lives v (used placed)
  pub ages : HasAges first lives (take v h) placed
