-- The plan of a tree next to one that stands: each of its nodes that stands there is kept where it
-- stands, and each other is made.
use Rattle.std.specs.Prelude.{◌≡◌, ◌+◌, ◌↔◌, ℕ, eqb, Bool, true, if◌then◌else◌, List, [], ◌∷◌, ◌++◌, Contains}
use Rattle.mst_key.specs.declared.format.Format.{Format}
use Rattle.mst_key.specs.Map.{key_cmp}
use Rattle.mst_node.specs.Cost.{same_tree, is_subtree}
use Rattle.mst_node.specs.Trail.{by_order}
use Rattle.mst_node.specs.Tree as tree
use Rattle.mst_node.specs.Tree.{Tree, Entries}
use Rattle.mst_arena.specs.Lists.{In}
use Rattle.mst_arena.specs.Standing.{Placed, none, head, Chain, end, cell, tree_of, link_of}
use Rattle.mst_arena.specs.declared.row.KeyedLinks.{KeyedLinks}
use Rattle.mst_arena.specs.Ages.{placed_nodes}
use Rattle.mst_batch.specs.Kept.{is_marked}
use Rattle.mst_batch.specs.Plans.{PlanTree, PlanEntries, PlannedEntry, kept, made, last, entry}

-- the link of the first of these nodes whose tree this is, 0 if it is none's
abbrev pub link_among : Format → List Placed → Tree → ℕ
link_among format [] t = 0
link_among format (p ∷ ps) t =
    if same_tree t (tree_of format p) then link_of p else link_among format ps t

-- the first of these nodes that stands at the link
abbrev pub node_among : List Placed → ℕ → Placed
node_among [] link = none
node_among (p ∷ ps) link = if eqb (link_of p) link then p else node_among ps link

-- the node of a tree that stands at a link
abbrev pub node_at : Placed → ℕ → Placed
node_at whole link = node_among (placed_nodes whole) link

abbrev mutual
  pub plan_beside : Format → Placed → Tree → PlanTree
  plan_beside format whole tree.empty = kept 0
  plan_beside format whole (tree.node g l es) =
      if is_subtree (tree.node g l es) (tree_of format whole)
      then kept (link_among format (placed_nodes whole) (tree.node g l es))
      else made l (entries_beside format whole es)

  pub entries_beside : Format → Placed → Entries → PlanEntries
  entries_beside format whole (tree.last child) = last (plan_beside format whole child)
  entries_beside format whole (tree.entry child key value rest) =
      entry (plan_beside format whole child) key value (entries_beside format whole rest)

-- the links of the trees that a plan keeps
abbrev mutual
  pub links_kept : PlanTree → List ℕ
  links_kept (kept link) = link ∷ []
  links_kept (made layer es) = entries_links es

  pub entries_links : PlanEntries → List ℕ
  entries_links (last child) = links_kept child
  entries_links (entry child key value rest) = links_kept child ++ entries_links rest

-- there is a mark at the row of the head of each tree that the plan keeps, and no other
abbrev pub AreMarks : List Bool → PlanTree → Type 0
AreMarks marks plan = (row : ℕ) → (is_marked marks row ≡ true) ↔ In (row + 1) (links_kept plan)

-- ---- the node that has a key

-- the link of the node of a placed tree of which the key is that of an entry, 0 if there is none
abbrev mutual
  pub link_of_key : List ℕ → Placed → ℕ
  link_of_key q none = 0
  link_of_key q (head at layer chain) = chain_link q (at + 1) chain

  pub chain_link : List ℕ → ℕ → Chain → ℕ
  chain_link q here (end child) = link_of_key q child
  chain_link q here (cell at child key value rest) =
      by_order (key_cmp q key) (link_of_key q child) here (chain_link q here rest)

-- the entries of a node that stands, with each tree before and after them kept
abbrev pub kept_entries : Chain → PlanEntries
kept_entries (end child) = last (kept (link_of child))
kept_entries (cell at child key value rest) =
    entry (kept (link_of child)) key value (kept_entries rest)

-- an entry that stands with these links and this value, with the tree before it kept
abbrev pub kept_entry : KeyedLinks → List ℕ → PlannedEntry
kept_entry links value = record { child = kept links.child; key = links.key; value = value }

-- a node that stands, with each tree below it kept; nothing at link 0
abbrev pub kept_node : Placed → PlanTree
kept_node none = kept 0
kept_node (head at layer chain) = made layer (kept_entries chain)

-- a node of the tree stands at the link, of this layer, and these are its entries, with each tree
-- before and after them kept
abbrev pub Matches : Placed → ℕ → ℕ → PlanEntries → Type 0
Matches whole link layer es = (row : ℕ) × (chain : Chain)
    × Contains (placed_nodes whole) (head row layer chain) × (row + 1 ≡ link)
    × (es ≡ kept_entries chain)
