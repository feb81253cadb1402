-- The nodes of a tree that stands, each with its own rows, and which versions reach these rows.
use Rattle.std.specs.Prelude.{◌≡◌, ◌≤◌, ℕ, List, [], ◌∷◌, ◌++◌, length}
use Rattle.std.specs.List.{AllByRecursion}
use Rattle.mst_key.specs.History.{History, format_after}
use Rattle.mst_key.specs.declared.format.Format.{Format}
use Rattle.mst_node.specs.Stays.{lasts}
use Rattle.mst_arena.specs.Lives.{reaches}
use Rattle.mst_arena.specs.declared.life.Life.{Life}
use Rattle.mst_arena.specs.Standing.{Placed, none, head, Chain, end, cell, tree_of}
use Rattle.mst_arena.specs.Lists.{In}

-- the nodes of a placed tree, each before those below it
abbrev mutual
  pub placed_nodes : Placed → List Placed
  placed_nodes none = []
  placed_nodes (head at layer chain) = head at layer chain ∷ chain_nodes chain

  pub chain_nodes : Chain → List Placed
  chain_nodes (end child) = placed_nodes child
  chain_nodes (cell at child key value rest) = placed_nodes child ++ chain_nodes rest

-- the rows of the entries of a chain, without those of the trees in its gaps
abbrev pub chain_own : Chain → List ℕ
chain_own (end child) = []
chain_own (cell at child key value rest) = at ∷ chain_own rest

-- the rows of a node, of its head and its entries, without those of the trees below it
abbrev pub top_rows : Placed → List ℕ
top_rows none = []
top_rows (head at layer chain) = at ∷ chain_own chain

-- The versions that reach the rows of a node of the last version's tree are those from which on the
-- node's tree has stood, up to the last. The format that is given is that of version 0.
abbrev pub HasAge : Format → List Life → History → Placed → Type 0
HasAge first lives h p = (r v : ℕ) → In r (top_rows p) → v ≤ length h
    → reaches lives v r ≡ lasts first h v (length h) (tree_of (format_after first h) p)

-- the same of all nodes of the last version's tree
abbrev pub HasAges : Format → List Life → History → Placed → Type 0
HasAges first lives h whole = AllByRecursion (HasAge first lives h) (placed_nodes whole)
