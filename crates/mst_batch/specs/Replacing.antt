-- A plan that is carried out in place of the tree that stands, of which it keeps some nodes.
use Rattle.std.specs.Prelude.{◌≡◌, ℕ, true, Bool, List, [], ◌∷◌, ◌++◌, Contains}
use Rattle.mst_arena.specs.Standing.{Placed, Chain, none, head}
use Rattle.mst_arena.specs.Ages.{placed_nodes}
use Rattle.mst_batch.specs.Kept.{is_marked}
use Rattle.mst_batch.specs.Plans.{PlanTree, PlanEntries, kept, made, last, entry, EachKept}

-- the tree is empty, or a node of the whole tree with a mark at the row of its head
abbrev pub IsMarkedNode : List Bool → Placed → Placed → Type 0
IsMarkedNode marks whole none = Unit {0}
IsMarkedNode marks whole (head at layer chain) =
    Contains (placed_nodes whole) (head at layer chain) × (is_marked marks at ≡ true)

-- the trees that a plan keeps
abbrev mutual
  pub trees_kept : (ℕ → Placed) → PlanTree → List Placed
  trees_kept at (kept link) = at link ∷ []
  trees_kept at (made layer es) = entries_trees at es

  pub entries_trees : (ℕ → Placed) → PlanEntries → List Placed
  entries_trees at (last child) = trees_kept at child
  entries_trees at (entry child key value rest) = trees_kept at child ++ entries_trees at rest

-- The plan keeps marked nodes of the tree, and each node of the tree that is marked.
pub record Keeps (at : ℕ → Placed) (marks : List Bool) (whole : Placed) (plan : PlanTree)
    : Type 0 where
  pub nodes : EachKept (λ link. IsMarkedNode marks whole (at link)) plan
  pub all : (row layer : ℕ) (chain : Chain)
      → Contains (placed_nodes whole) (head row layer chain) → is_marked marks row ≡ true
      → Contains (trees_kept at plan) (head row layer chain)
