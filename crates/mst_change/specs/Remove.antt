-- The tree after a remove: the entry goes, and the children next to it are joined.
use Rattle.std.specs.Prelude.{ℕ, List}
use Rattle.mst_key.specs.Map.{key_cmp}
use Rattle.mst_node.specs.Tree.{Tree, empty, node, Entries, last, entry}
use Rattle.mst_node.specs.Trail.{by_order}
use Rattle.mst_change.specs.Parts.{first_child, with_first, node_of}
use Rattle.mst_change.specs.Join.{join}

-- The tree without the key: its entry goes, and the children next to it are joined.
abbrev mutual
  pub tree_remove : Tree → List ℕ → Tree
  tree_remove empty k = empty
  tree_remove (node format l es) k = node_of format l (entries_remove es k)

  pub entries_remove : Entries → List ℕ → Entries
  entries_remove (last child) k = last (tree_remove child k)
  entries_remove (entry child key value rest) k =
      by_order (key_cmp k key) (entry (tree_remove child k) key value rest)
      (with_first (join child (first_child rest)) rest)
      (entry child key value (entries_remove rest k))
