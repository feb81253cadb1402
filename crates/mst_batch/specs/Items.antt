-- What the tree after a batch is built of: pairs, and trees that stand and are not looked into.
use Rattle.std.specs.Prelude.{◌≡◌, ◌≤◌, ◌<◌, ◌+◌, ℕ, max, eqb, if◌then◌else◌, Option, Some, None, List, [], ◌∷◌, ◌++◌, Contains}
use Rattle.std.specs.List.{AllByRecursion}
use Rattle.std.specs.Option.{option_map_or}
use Rattle.mst_key.specs.declared.format.Format.{Format}
use Rattle.mst_key.specs.Layer.{layer_in}
use Rattle.mst_key.specs.Map.{Pair, IsAscending}
use Rattle.mst_node.specs.Tree.{pairs}
use Rattle.mst_arena.specs.declared.row.Row.{Row}
use Rattle.mst_arena.specs.declared.row.Row.TheVariants.{Entry, Head}
use Rattle.mst_arena.specs.Standing.{Placed, head, Chain, tree_of, rows_of}
use Rattle.mst_arena.specs.Ages.{placed_nodes}
use Rattle.mst_batch.specs.Beside.{node_at}
use Rattle.mst_batch.specs.Known.{IsEntryOf}
use Rattle.mst_batch.specs.declared.items.Item.{Item}
use Rattle.mst_batch.specs.declared.items.Item.TheVariants as item
use Rattle.mst_batch.specs.declared.plan.Origin.{Origin}
use Rattle.mst_batch.specs.declared.plan.Origin.TheVariants.{Unknown, Kept, Changed}

-- the row of this number among rows
abbrev pub row_among : List (ℕ × Row) → ℕ → Option Row
row_among [] row = None
row_among (r ∷ rows) row = if eqb row r.0 then Some r.1 else row_among rows row

abbrev pub pair_in : Row → List Pair
pair_in (Entry child next key value) = (key, value) ∷ []
pair_in (Head layer count first tail digest) = []

-- the pair of the entry in the row of this number
abbrev pub pair_among : List (ℕ × Row) → ℕ → List Pair
pair_among rows row = option_map_or pair_in (row_among rows row) []

-- the pairs of an item, where this tree stands
abbrev pub item_pairs : Format → Placed → Item → List Pair
item_pairs format whole (item.Put key value layer origin) = (key.now, value.now) ∷ []
item_pairs format whole (item.Kept row layer) = pair_among (rows_of format whole) row
item_pairs format whole (item.Subtree link layer) = pairs (tree_of format (node_at whole link))

abbrev pub items_pairs : Format → Placed → List Item → List Pair
items_pairs format whole [] = []
items_pairs format whole (x ∷ xs) = item_pairs format whole x ++ items_pairs format whole xs

-- what is told of a pair: if it is kept, the rows of the tree that stands have it in this row
abbrev pub IsTold : Format → Placed → Pair → Origin → Type 0
IsTold format whole pair Unknown = Unit {0}
IsTold format whole pair (Kept row) = IsEntryOf format whole row pair
IsTold format whole pair (Changed row) = Unit {0}

-- with a pair is the layer of its key, and what is told of it, and with a link the layer of the
-- node of the tree that stands there
abbrev pub IsItem : Format → Placed → Item → Type 0
IsItem format whole (item.Put key value layer origin) =
    (layer_in format key.now ≡ layer) × IsTold format whole (key.now, value.now) origin
IsItem format whole (item.Kept row layer) = (pair : Pair) × IsEntryOf format whole row pair
    × (pair_among (rows_of format whole) row ≡ pair ∷ []) × (layer_in format pair.0 ≡ layer)
IsItem format whole (item.Subtree link layer) = (row : ℕ) × (chain : Chain) × (link ≡ row + 1)
    × Contains (placed_nodes whole) (head row layer chain)

-- the item has this pair, of the layer, and this is told of it
abbrev pub IsPair : Format → Placed → ℕ → Item → Pair → Origin → Type 0
IsPair format whole layer x pair origin = (item_pairs format whole x ≡ pair ∷ [])
    × (layer_in format pair.0 ≡ layer) × IsTold format whole pair origin

-- items next to the tree that stands, whose keys rise
pub record AreItems (format : Format) (whole : Placed) (items : List Item) : Type 0 where
  pub each : AllByRecursion (IsItem format whole) items
  pub rise : IsAscending (items_pairs format whole items)

-- ---- their layers

abbrev pub layer_of : Item → ℕ
layer_of (item.Put key value layer origin) = layer
layer_of (item.Kept row layer) = layer
layer_of (item.Subtree link layer) = layer

-- how many layers there are up to the greatest of the items, 0 if there is no item
abbrev pub height_of : List Item → ℕ
height_of [] = 0
height_of (x ∷ xs) = max (layer_of x + 1) (height_of xs)

-- no pair is above the layer, and each tree is below it
abbrev pub IsUpTo : ℕ → Item → Type 0
IsUpTo l (item.Put key value layer origin) = layer ≤ l
IsUpTo l (item.Kept row layer) = layer ≤ l
IsUpTo l (item.Subtree link layer) = layer < l

-- the item is a pair of the layer
abbrev pub IsPairOf : ℕ → Item → Type 0
IsPairOf l (item.Put key value layer origin) = layer ≡ l
IsPairOf l (item.Kept row layer) = layer ≡ l
IsPairOf l (item.Subtree link layer) = ⊥
