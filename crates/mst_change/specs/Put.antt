-- The tree after a put: an entry more, or another value, and what the new entry splits.
use Rattle.std.specs.Prelude.{ℕ, ◌==◌, nat_lt, if◌then◌else◌, List}
use Rattle.mst_key.specs.declared.format.Format.{Format}
use Rattle.mst_key.specs.Layer.{layer_in}
use Rattle.mst_key.specs.Map.{key_cmp}
use Rattle.mst_node.specs.Tree.{Tree, empty, node, Entries, last, entry}
use Rattle.mst_node.specs.Shape.{with_entries}
use Rattle.mst_node.specs.Trail.{by_order}
use Rattle.mst_change.specs.Parts.{cells, last_child}
use Rattle.mst_change.specs.Split.{entries_below, entries_above}

-- the entries below the key, its own with the value, and the entries above it
abbrev pub put_among : List ℕ → List ℕ → Entries → Entries
put_among k v es = with_entries (cells (entries_below k es))
    (entry (last_child (entries_below k es)) k v (entries_above k es))

-- The tree in which the key, whose layer is l, has the value: in a node of its layer it stands
-- among the entries, it splits a tree of lower layers, and in a node of a higher layer it goes into
-- the child of its gap.
abbrev mutual
  pub put_at : Format → ℕ → List ℕ → List ℕ → Tree → Tree
  put_at format l k v empty = node format l (entry empty k v (last empty))
  put_at format l k v (node g j es) =
      if nat_lt j l then node format l (put_among k v (last (node g j es)))
      else if j == l then node g j (put_among k v es)
      else node g j (put_in_gap format l k v es)

  pub put_in_gap : Format → ℕ → List ℕ → List ℕ → Entries → Entries
  put_in_gap format l k v (last child) = last (put_at format l k v child)
  put_in_gap format l k v (entry child key value rest) =
      by_order (key_cmp k key) (entry (put_at format l k v child) key value rest)
      (entry child k v rest) (entry child key value (put_in_gap format l k v rest))

abbrev pub tree_put : Format → Tree → List ℕ → List ℕ → Tree
tree_put format t k v = put_at format (layer_in format k) k v t
