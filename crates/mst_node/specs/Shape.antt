-- The tree that a `Node` of the program is.
use Rattle.std.specs.Prelude.{ℕ, List, [], ◌∷◌, Option, Some, None}
use Rattle.std.specs.declared.boxed.Box.{Box}
use Rattle.mst_key.specs.declared.format.Format.{Format}
use Rattle.mst_node.specs.Tree.{Tree, empty, node, Entries, last, entry}
use Rattle.mst_node.specs.declared.node.Node.{Node}
use Rattle.mst_node.specs.declared.node.Entry.{Entry}
use Rattle.mst_node.specs.declared.node.Entry.TheOpen.{Entry-F, Node-F}
use Rattle.mst_node.specs.declared.node.Entry.TheFolds.{fold-Node, fold-Entry}

-- an entry with the tree of the gap before it
pub record TreeEntry : Type 0 where
  pub child : Tree
  pub key : List ℕ
  pub value : List ℕ

-- these entries, and then the others
abbrev pub with_entries : List TreeEntry → Entries → Entries
with_entries [] es = es
with_entries (x ∷ xs) es = entry x.child x.key x.value (with_entries xs es)

-- the tree in a child's place
abbrev pub boxed_tree : (A : Type 0) → Option (Box Tree A) → Tree
boxed_tree A None = empty
boxed_tree A (Some b) = b.value

abbrev pub entry_step : (A : Type 0) → Entry-F A TreeEntry Tree → TreeEntry
entry_step A e = record { child = boxed_tree A e.child; key = e.key; value = e.value }

abbrev pub node_step : (A : Type 0) → Format → Node-F A TreeEntry Tree → Tree
node_step A format n =
    node format n.layer (with_entries n.entries.items (last (boxed_tree A n.tail)))

-- the tree of a node, in a format
abbrev pub tree_of : {A : Type 0} → Format → Node A → Tree
tree_of {A} format n = fold-Node A TreeEntry Tree (entry_step A) (node_step A format) n

-- the entry of a tree that an entry of the program stands for
abbrev pub tree_entry : {A : Type 0} → Format → Entry A → TreeEntry
tree_entry {A} format e = fold-Entry A TreeEntry Tree (entry_step A) (node_step A format) e

-- the tree of an optional node
abbrev pub tree_of_child : {A : Type 0} → Format → Option (Box (Node A) A) → Tree
tree_of_child format None = empty
tree_of_child format (Some b) = tree_of format b.value
