-- Two trees joined into one: the keys of the one are below those of the other.
use Rattle.std.specs.Prelude.{ℕ, ◌==◌, nat_lt, if◌then◌else◌}
use Rattle.mst_key.specs.declared.format.Format.{Format}
use Rattle.mst_node.specs.Tree.{Tree, empty, node, Entries, last, entry}
use Rattle.mst_node.specs.Shape.{with_entries}
use Rattle.mst_change.specs.Parts.{cells, first_child, with_first}

-- A node joined with the tree after it. `inner` joins its last child with a tree.
abbrev mutual
  pub join_node : Format → ℕ → Entries → (Tree → Tree) → Tree → Tree
  join_node format l es inner empty = node format l es
  join_node format l es inner (node g j fs) =
      if nat_lt j l then node format l (with_entries (cells es) (last (inner (node g j fs))))
      else if j == l
      then node format l (with_entries (cells es) (with_first (inner (first_child fs)) fs))
      else node g j (join_first format l es inner fs)

  pub join_first : Format → ℕ → Entries → (Tree → Tree) → Entries → Entries
  join_first format l es inner (last child) = last (join_node format l es inner child)
  join_first format l es inner (entry child key value rest) =
      entry (join_node format l es inner child) key value rest

-- The node of the greater layer stays on top, and the other tree is joined with its child at that
-- end. Two nodes of one layer become one, and the children that meet are joined.
abbrev mutual
  pub join : Tree → Tree → Tree
  join empty b = b
  join (node format l es) b = join_node format l es (join_last es) b

  pub join_last : Entries → Tree → Tree
  join_last (last child) b = join child b
  join_last (entry child key value rest) b = join_last rest b
