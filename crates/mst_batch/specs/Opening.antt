-- A part of a tree that stands, and what edits add of it to a list of items.
use Rattle.std.specs.Prelude.{◌≡◌, ◌⊎◌, ℕ, List, ◌++◌, Contains}
use Rattle.std.specs.List.{AllByRecursion}
use Rattle.std.specs.declared.cmp.Ordering.TheVariants.{Less}
use Rattle.mst_key.specs.declared.format.Format.{Format}
use Rattle.mst_key.specs.declared.history.Edit.{Edit}
use Rattle.mst_key.specs.History.{key_of}
use Rattle.mst_key.specs.Map.{Pair, key_cmp, IsAscending}
use Rattle.mst_node.specs.Tree.{pairs, IsMst}
use Rattle.mst_arena.specs.Content.{Content}
use Rattle.mst_arena.specs.Standing.{Placed, none, tree_of, link_of, rows_of, HasRows}
use Rattle.mst_arena.specs.Ages.{placed_nodes}
use Rattle.mst_batch.specs.Items.{items_pairs, IsItem}
use Rattle.mst_batch.specs.declared.items.Item.{Item}

-- at the link stands a node of the search tree that stands in the rows, or the link is 0
pub record PartOf (format : Format) (content : Content) (whole : Placed) (link : ℕ)
    : Type 0 where
  pub rows : HasRows content (rows_of format whole)
  pub search : IsMst format (tree_of format whole)
  pub rise : IsAscending (pairs (tree_of format whole))
  pub placed : Placed
  pub at : link_of placed ≡ link
  pub part : (placed ≡ none) ⊎ Contains (placed_nodes whole) placed

-- the new list is the old one with items of these pairs after it
pub record Adds (format : Format) (whole : Placed) (old new : List Item) (added : List Pair)
    : Type 0 where
  pub follow : items_pairs format whole new ≡ items_pairs format whole old ++ added
  pub each : AllByRecursion (IsItem format whole) old → AllByRecursion (IsItem format whole) new

-- each edit is of a lesser key
abbrev pub AreBelow : List Edit → List ℕ → Type 0
AreBelow es k = AllByRecursion (λ e. key_cmp (key_of e) k ≡ Less) es

-- each edit is of the key
abbrev pub AreOf : List Edit → List ℕ → Type 0
AreOf es k = AllByRecursion (λ e. key_of e ≡ k) es
