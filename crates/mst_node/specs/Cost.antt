-- What a change of the map costs in rows, and a bound on it.
use Rattle.std.specs.Prelude.{ℕ, Bool, true, false, not, ◌&&◌, ◌==◌, ◌+◌, List, [], ◌∷◌, ◌++◌, sum_by, filter}
use Rattle.std.specs.List.{list_any}
use Rattle.std.specs.Ordering.{is_eq}
use Rattle.mst_key.specs.declared.format.Format.{Format}
use Rattle.mst_key.specs.declared.format.Format.TheVariants.{One, Two}
use Rattle.mst_key.specs.Map.{Pair, key_cmp}
use Rattle.mst_node.specs.Tree.{Tree, empty, node, Entries, last, entry, entry_count, tree}
pub use Rattle.mst_node.specs.Tree.{subtrees, entries_subtrees}
use Rattle.mst_node.specs.Trail.{trail}

-- ---- whether two trees are the same

abbrev pub same_bytes : List ℕ → List ℕ → Bool
same_bytes a b = is_eq (key_cmp a b)

abbrev pub same_format : Format → Format → Bool
same_format One One = true
same_format Two Two = true
same_format One Two = false
same_format Two One = false

abbrev mutual
  pub same_tree : Tree → Tree → Bool
  same_tree empty empty = true
  same_tree empty (node g k fs) = false
  same_tree (node f l es) empty = false
  same_tree (node f l es) (node g k fs) = same_format f g && (l == k) && same_entries es fs

  pub same_entries : Entries → Entries → Bool
  same_entries (last c) (last d) = same_tree c d
  same_entries (last c) (entry d j w fs) = false
  same_entries (entry c k v es) (last d) = false
  same_entries (entry c k v es) (entry d j w fs) =
      same_tree c d && same_bytes k j && same_bytes v w && same_entries es fs

-- whether the tree stands in another
abbrev pub is_subtree : Tree → Tree → Bool
is_subtree t whole = list_any (same_tree t) (subtrees whole)

-- ---- what a change costs

-- how many entries the top node has
abbrev pub top_entries : Tree → ℕ
top_entries empty = 0
top_entries (node format l es) = entry_count es

-- The rows of the new tree's nodes that head no subtree of the old: one for each entry, and one for
-- the node.
abbrev pub new_rows : Tree → Tree → ℕ
new_rows old new =
    sum_by (λ t. top_entries t + 1) (filter (λ t. not (is_subtree t old)) (subtrees new))

-- what a change from one map to another costs
abbrev pub cost : Format → List Pair → List Pair → ℕ
cost format m n = new_rows (tree format m) (tree format n)

-- entries and two for each node that a search for the key meets
abbrev pub weight : Format → List Pair → List ℕ → ℕ
weight format m k = sum_by (λ t. top_entries t + 2) (trail format m k)
