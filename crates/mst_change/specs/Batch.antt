-- The tree after a batch, and what it costs: the rows of the nodes of the new tree, counted by a
-- walk that stops at each node that stands in the old one.
use Rattle.std.specs.Prelude.{◌≡◌, ◌⊎◌, ℕ, ◌+◌, if◌then◌else◌, List, [], ◌∷◌}
use Rattle.mst_key.specs.declared.format.Format.{Format}
use Rattle.mst_key.specs.declared.history.Edit.{Edit}
use Rattle.mst_key.specs.declared.history.Edit.TheVariants as edit
use Rattle.mst_node.specs.Tree.{Tree, empty, node, Entries, last, entry, entry_count}
use Rattle.mst_node.specs.Cost.{is_subtree}
use Rattle.mst_change.specs.Put.{tree_put}
use Rattle.mst_change.specs.Remove.{tree_remove}

abbrev pub tree_edited : Format → Tree → Edit → Tree
tree_edited format t (edit.Put k v) = tree_put format t k v
tree_edited format t (edit.Remove k) = tree_remove t k

-- the tree after the edits, one after another
abbrev pub tree_batched : Format → Tree → List Edit → Tree
tree_batched format t [] = t
tree_batched format t (e ∷ es) = tree_batched format (tree_edited format t e) es

-- the rows of a tree in addition to those of an old one: none for a tree that stands there
abbrev mutual
  pub rows_beside : Tree → Tree → ℕ
  rows_beside old empty = 0
  rows_beside old (node g l es) = if is_subtree (node g l es) old then 0
      else entry_count es + 1 + entries_beside old es

  pub entries_beside : Tree → Entries → ℕ
  entries_beside old (last child) = rows_beside old child
  entries_beside old (entry child key value rest) =
      rows_beside old child + entries_beside old rest

-- the key is that of an entry; of an entry of the top node
abbrev pub HasEntry : List ℕ → Entries → Type 0
HasEntry q (last child) = ⊥
HasEntry q (entry child key value rest) = (q ≡ key) ⊎ HasEntry q rest

abbrev pub HasOnTop : List ℕ → Tree → Type 0
HasOnTop q empty = ⊥
HasOnTop q (node g l es) = HasEntry q es
