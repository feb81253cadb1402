-- A tree split at a key: what it has below the key, and what it has above. Only the nodes on the
-- path to the key change, all else stays (Auvolat and Taïani 2019).
use Rattle.std.specs.Prelude.{ℕ, List}
use Rattle.mst_key.specs.Map.{key_cmp}
use Rattle.mst_node.specs.Tree.{Tree, empty, node, Entries, last, entry}
use Rattle.mst_node.specs.Trail.{by_order}
use Rattle.mst_change.specs.Parts.{node_of}

abbrev mutual
  pub below : List ℕ → Tree → Tree
  below k empty = empty
  below k (node format l es) = node_of format l (entries_below k es)

  pub entries_below : List ℕ → Entries → Entries
  entries_below k (last child) = last (below k child)
  entries_below k (entry child key value rest) =
      by_order (key_cmp k key) (last (below k child)) (last child)
      (entry child key value (entries_below k rest))

abbrev mutual
  pub above : List ℕ → Tree → Tree
  above k empty = empty
  above k (node format l es) = node_of format l (entries_above k es)

  pub entries_above : List ℕ → Entries → Entries
  entries_above k (last child) = last (above k child)
  entries_above k (entry child key value rest) =
      by_order (key_cmp k key) (entry (above k child) key value rest) rest (entries_above k rest)
