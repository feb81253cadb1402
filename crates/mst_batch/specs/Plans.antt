-- The tree that a plan is: kept trees, each by the link at which it stands, and nodes to be made.
use Rattle.std.specs.Prelude.{◌≡◌, ◌≤◌, ◌+◌, ℕ, List, [], ◌∷◌, ◌++◌}
use Rattle.std.specs.declared.boxed.Box.{Box}
use Rattle.mst_key.specs.declared.format.Format.{Format}
use Rattle.mst_node.specs.Tree as tree
use Rattle.mst_node.specs.Tree.{Tree, IsMst}
use Rattle.mst_arena.specs.Content.{Content}
use Rattle.mst_arena.specs.Lives.{State}
use Rattle.mst_arena.specs.Lists.{times}
use Rattle.mst_arena.specs.Standing.{Placed, tree_of, link_of, used}
use Rattle.mst_path.specs.Runs.{OldPiece}
use Rattle.mst_batch.specs.declared.plan.Plan.{Plan}
use Rattle.mst_batch.specs.declared.plan.Plan.TheVariants.{Kept, Made}
use Rattle.mst_batch.specs.declared.plan.PlanNode.{PlanNode}
use Rattle.mst_batch.specs.declared.plan.PlanEntry.{PlanEntry}
use Rattle.mst_batch.specs.declared.plan.PlanEntry.TheOpen.{PlanEntry-F, PlanNode-F}
use Rattle.mst_batch.specs.declared.plan.PlanEntry.TheFolds.{fold-PlanNode, fold-PlanEntry}

mutual
  pub data PlanTree : Type 0 where
    kept : (link : ℕ) → PlanTree
    made : (layer : ℕ) → (entries : PlanEntries) → PlanTree

  pub data PlanEntries : Type 0 where
    last : (child : PlanTree) → PlanEntries
    entry : (child : PlanTree) → (key : List ℕ) → (value : List ℕ) → (rest : PlanEntries)
        → PlanEntries

-- an entry with the plan of the gap before it
pub record PlannedEntry : Type 0 where
  pub child : PlanTree
  pub key : List ℕ
  pub value : List ℕ

-- these entries, and then the others
abbrev pub with_planned : List PlannedEntry → PlanEntries → PlanEntries
with_planned [] es = es
with_planned (x ∷ xs) es = entry x.child x.key x.value (with_planned xs es)

-- ---- the plan that a `Plan` of the program is

abbrev pub boxed_plan : (A : Type 0) → Plan (Box PlanTree A) → PlanTree
boxed_plan A (Kept link) = kept link
boxed_plan A (Made b) = b.value

abbrev pub entry_step : (A : Type 0) → PlanEntry-F A PlannedEntry PlanTree → PlannedEntry
entry_step A e = record { child = boxed_plan A e.child; key = e.key; value = e.value }

abbrev pub node_step : (A : Type 0) → PlanNode-F A PlannedEntry PlanTree → PlanTree
node_step A n = made n.layer (with_planned n.entries.items (last (boxed_plan A n.tail)))

abbrev pub plan_of_node : {A : Type 0} → PlanNode A → PlanTree
plan_of_node {A} n = fold-PlanNode A PlannedEntry PlanTree (entry_step A) (node_step A) n

abbrev pub planned_entry : {A : Type 0} → PlanEntry A → PlannedEntry
planned_entry {A} e = fold-PlanEntry A PlannedEntry PlanTree (entry_step A) (node_step A) e

abbrev pub plan_of : {A : Type 0} → Plan (Box (PlanNode A) A) → PlanTree
plan_of (Kept link) = kept link
plan_of (Made b) = plan_of_node b.value

-- ---- what a plan comes to, by the tree that stands at each link

abbrev mutual
  pub tree_planned : Format → (ℕ → Placed) → PlanTree → Tree
  tree_planned format at (kept link) = tree_of format (at link)
  tree_planned format at (made layer es) = tree.node format layer (entries_planned format at es)

  pub entries_planned : Format → (ℕ → Placed) → PlanEntries → tree.Entries
  entries_planned format at (last child) = tree.last (tree_planned format at child)
  entries_planned format at (entry child key value rest) =
      tree.entry (tree_planned format at child) key value (entries_planned format at rest)

-- the rows that it takes: one for each entry and each node to be made
abbrev mutual
  pub rows_planned : PlanTree → ℕ
  rows_planned (kept link) = 0
  rows_planned (made layer es) = entries_rows es + 1

  pub entries_rows : PlanEntries → ℕ
  entries_rows (last child) = rows_planned child
  entries_rows (entry child key value rest) = rows_planned child + 1 + entries_rows rest

-- the rows of the trees that are kept
abbrev mutual
  pub rows_kept : (ℕ → Placed) → PlanTree → List ℕ
  rows_kept at (kept link) = used (at link)
  rows_kept at (made layer es) = entries_kept at es

  pub entries_kept : (ℕ → Placed) → PlanEntries → List ℕ
  entries_kept at (last child) = rows_kept at child
  entries_kept at (entry child key value rest) = rows_kept at child ++ entries_kept at rest

-- a fact of each link that is kept
abbrev mutual
  pub EachKept : (ℕ → Type 0) → PlanTree → Type 0
  EachKept P (kept link) = P link
  EachKept P (made layer es) = EachKeptBelow P es

  pub EachKeptBelow : (ℕ → Type 0) → PlanEntries → Type 0
  EachKeptBelow P (last child) = EachKept P child
  EachKeptBelow P (entry child key value rest) = EachKept P child × EachKeptBelow P rest

-- A plan can be carried out, where these trees stand at the links: at each link that is kept stands
-- its tree, of the current version, no row stands twice in these, and with them the plan is a
-- search tree.
pub record IsPlan (format : Format) (at : ℕ → Placed) (content : Content) (s : State)
    (plan : PlanTree) : Type 0 where
  pub links : EachKept (λ link. link_of (at link) ≡ link) plan
  pub stand : EachKept (λ link. OldPiece format content s (at link)) plan
  pub once : (x : ℕ) → times x (rows_kept at plan) ≤ 1
  pub search : IsMst format (tree_planned format at plan)
