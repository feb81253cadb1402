-- The parts of a node: its entries, each with the child before it, and the last child.
use Rattle.std.specs.Prelude.{ℕ, List, [], ◌∷◌, Bool, true, false}
use Rattle.mst_key.specs.declared.format.Format.{Format}
use Rattle.mst_node.specs.Tree.{Tree, empty, node, Entries, last, entry}
use Rattle.mst_node.specs.Shape.{TreeEntry}

abbrev pub cells : Entries → List TreeEntry
cells (last child) = []
cells (entry child key value rest) = record { child = child; key = key; value = value } ∷ cells rest

abbrev pub last_child : Entries → Tree
last_child (last child) = child
last_child (entry child key value rest) = last_child rest

abbrev pub first_child : Entries → Tree
first_child (last child) = child
first_child (entry child key value rest) = child

-- the entries with another first child
abbrev pub with_first : Tree → Entries → Entries
with_first new (last child) = last new
with_first new (entry child key value rest) = entry new key value rest

-- a node of these entries; if there is none, the child alone
abbrev pub node_of : Format → ℕ → Entries → Tree
node_of format l (last child) = child
node_of format l (entry child key value rest) = node format l (entry child key value rest)

abbrev pub is_empty : Tree → Bool
is_empty empty = true
is_empty (node format l es) = false
