-- A plan of a change of the map that stands at a root.
use Rattle.std.specs.Prelude.{◌≡◌, ℕ, Bool, List}
use Rattle.mst_key.specs.declared.format.Format.{Format}
use Rattle.mst_key.specs.Map.{Pair, IsMap}
use Rattle.mst_node.specs.Cost.{cost}
use Rattle.mst_node.specs.Tree.{tree}
use Rattle.mst_arena.specs.Content.{Content}
use Rattle.mst_arena.specs.Lives.{State}
use Rattle.mst_arena.specs.declared.row.Root.{Root}
use Rattle.mst_arena.specs.Standing.{Placed, Stands}
use Rattle.mst_batch.specs.Plans.{PlanTree, tree_planned, rows_planned, IsPlan}
use Rattle.mst_batch.specs.Replacing.{Keeps}

-- The plan can be carried out, and keeps the marked nodes of the tree that stands; its tree is that
-- of the map after the change, and it takes as many rows as the change costs.
pub record IsPlanOf (format : Format) (content : Content) (s : State) (root : Root)
    (marks : List Bool) (plan : PlanTree) (change : List Pair → List Pair) : Type 0 where
  pub at : ℕ → Placed
  pub fits : (m : List Pair) → IsMap m → IsMap (change m)
  pub possible : IsPlan format at content s plan
  pub keeps : (m : List Pair) (stands : Stands format content root m)
      → Keeps at marks stands.tree.placed plan
  pub is : (m : List Pair) → Stands format content root m
      → tree_planned format at plan ≡ tree format (change m)
  pub rows : (m : List Pair) → Stands format content root m
      → rows_planned plan ≡ cost format m (change m)
