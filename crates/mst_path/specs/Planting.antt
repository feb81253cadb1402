-- A tree that is written whole into free rows.
use Rattle.mst_key.specs.declared.format.Format.{Format}
use Rattle.std.specs.Prelude.{◌≡◌, ◌≤◌, ◌+◌, ℕ, List, length, Option, Some, None}
use Rattle.mst_key.specs.Map.{Pair}
use Rattle.mst_node.specs.Tree.{Tree, empty, node, Entries, last, entry, tree, pairs}
use Rattle.mst_node.specs.Text.{highest_count}
use Rattle.mst_node.specs.Shape.{tree_of as tree_of_node}
use Rattle.mst_node.specs.declared.node.Node.{Node}
use Rattle.mst_arena.specs.Content.{Content}
use Rattle.mst_arena.specs.Lives.{State}
use Rattle.mst_arena.specs.declared.row.Root.{Root}
use Rattle.mst_arena.specs.Standing.{Placed, tree_of, rows_of, used, HasRows}
use Rattle.mst_path.specs.Takes.{Takes, KeepsBut}
use Rattle.mst_path.specs.Writing.{IsRootOf}

-- how many nodes a tree has
abbrev mutual
  pub node_count : Tree → ℕ
  node_count empty = 0
  node_count (node format l es) = entries_node_count es + 1

  pub entries_node_count : Entries → ℕ
  entries_node_count (last child) = node_count child
  entries_node_count (entry child key value rest) = node_count child + entries_node_count rest

-- how many rows a tree takes: one for each pair and each node
abbrev pub rows_needed : Tree → ℕ
rows_needed t = length (pairs t) + node_count t

-- the tree of an optional node
abbrev pub tree_at : (format : Format) {A : Type 0} → Option (Node A) → Tree
tree_at format None = empty
tree_at format (Some n) = tree_of_node format n

-- the tree is that of these pairs, of which there are at most 65,535
pub record IsTreeOf (format : Format) (t : Tree) (m : List Pair) : Type 0 where
  pub few : length m ≤ highest_count
  pub is : t ≡ tree format m

-- the tree was written into rows that were taken for it, and no other row was touched
pub record Planted (format : Format) (old new : State) (before after : Content) (t : Tree)
    (at : Root) : Type 0 where
  pub placed : Placed
  pub is : tree_of format placed ≡ t
  pub root : IsRootOf format placed at
  pub rows : HasRows after (rows_of format placed)
  pub takes : Takes old new (used placed)
  pub keeps : KeepsBut (used placed) before after
