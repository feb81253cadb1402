-- The top of items: which of them are trees or pairs of a layer, and what a tree is opened to.
use Rattle.std.specs.Prelude.{◌≡◌, ℕ, max, Bool, false, ◌+◌, ◌==◌, if◌then◌else◌, List, [], ◌∷◌, ◌++◌, Option, Some, None}
use Rattle.std.specs.List.{list_any}
use Rattle.mst_key.specs.declared.format.Format.{Format}
use Rattle.mst_node.specs.Tree.{IsMst}
use Rattle.mst_arena.specs.Content.{Content}
use Rattle.mst_arena.specs.Standing.{Placed, none, head, Chain, end, cell, tree_of, rows_of, HasRows}
use Rattle.mst_batch.specs.Beside.{node_at}
use Rattle.mst_batch.specs.Items.{height_of}
use Rattle.mst_batch.specs.declared.items.Item.{Item}
use Rattle.mst_batch.specs.declared.items.Item.TheVariants as item

-- the rows stand for the tree, and it is a search tree
pub record IsStanding (format : Format) (content : Content) (whole : Placed) : Type 0 where
  pub rows : HasRows content (rows_of format whole)
  pub search : IsMst format (tree_of format whole)

-- whether the item is a tree of the layer
abbrev pub is_tree : ℕ → Item → Bool
is_tree l (item.Put key value layer origin) = false
is_tree l (item.Kept row layer) = false
is_tree l (item.Subtree link layer) = layer == l

-- the layer is the greatest of the items, 0 if there is none, and says whether a tree is of it
pub record IsTop (layer : ℕ) (has_tree : Bool) (items : List Item) : Type 0 where
  pub greatest : max 1 (height_of items) ≡ layer + 1
  pub tree : has_tree ≡ list_any (is_tree layer) items

-- whether the item is a pair of the layer
abbrev pub is_pair : ℕ → Item → Bool
is_pair l (item.Put key value layer origin) = layer == l
is_pair l (item.Kept row layer) = layer == l
is_pair l (item.Subtree link layer) = false

-- the link of the tree of items that stands already: one tree alone, or none
abbrev pub lone : List Item → Option ℕ
lone [] = Some 0
lone (item.Subtree link layer ∷ []) = Some link
lone _ = None

-- ---- a node as items: its pairs, and between them the trees below it

abbrev pub tree_items : Placed → List Item
tree_items none = []
tree_items (head at layer chain) = item.Subtree (at + 1) layer ∷ []

abbrev pub chain_items : ℕ → Chain → List Item
chain_items layer (end child) = tree_items child
chain_items layer (cell at child key value rest) =
    tree_items child ++ item.Kept at layer ∷ chain_items layer rest

abbrev pub node_items : Placed → List Item
node_items none = []
node_items (head at layer chain) = chain_items layer chain

-- an item with its node opened, if it is a tree of the layer
abbrev pub opened : Placed → ℕ → Item → List Item
opened whole l (item.Put key value layer origin) = item.Put key value layer origin ∷ []
opened whole l (item.Kept row layer) = item.Kept row layer ∷ []
opened whole l (item.Subtree link layer) =
    if layer == l then node_items (node_at whole link) else item.Subtree link layer ∷ []
