-- A tree of the current version that is to be split, and parts of which each side is made.
use Rattle.mst_key.specs.declared.format.Format.{Format}
use Rattle.std.specs.Prelude.{◌≤◌, ◌+◌, ℕ, List, [], ◌∷◌}
use Rattle.mst_key.specs.Layer.{layer_in}
use Rattle.mst_key.specs.Map.{IsAscending}
use Rattle.mst_node.specs.Tree.{Tree, pairs, IsUnder}
use Rattle.mst_arena.specs.Content.{Content}
use Rattle.mst_arena.specs.Lives.{State}
use Rattle.mst_arena.specs.Lists.{times}
use Rattle.mst_arena.specs.Standing.{tree_of}
use Rattle.mst_path.specs.Moves.{IsOld}
use Rattle.mst_path.specs.RemovePath.{SearchTree}
use Rattle.mst_change.specs.Parts.{node_of, with_first}
use Rattle.mst_path.specs.Making.{PartsStand, in_parts, cells_of, entries_to}
use Rattle.mst_path.specs.declared.making.NodeParts.{NodeParts}
use Rattle.mst_node.specs.Shape.{with_entries}

-- a search tree of the current version stands at a link, under a layer
pub record SearchUnder (format : Format) (content : Content) (s : State) (link layer : ℕ)
    : Type 0 where
  pub tree : SearchTree format content s link
  pub rises : IsAscending (pairs (tree_of format tree.placed))
  pub under : IsUnder layer (tree_of format tree.placed)

-- all its keys are of layers below the key's
abbrev pub ToSplit : (format : Format) → Content → State → ℕ → List ℕ → Type 0
ToSplit format content s link k = SearchUnder format content s link (layer_in format k)

-- what a side of parts is: a node, or the tree in the seam if there are no entries
abbrev pub side_of : (format : Format) {content : Content} {s : State} {parts : NodeParts}
    → PartsStand format content s parts → Tree
side_of format {parts = parts} p = node_of format parts.layer
    (with_entries (cells_of format p.front)
    (with_first (tree_of format p.seam) (entries_to format p.back p.tail)))

-- the parts of two sides stand, and the row of an old head: no row is in two of them
pub record BothStand (format : Format) (content : Content) (s : State) (row : ℕ)
    (left right : NodeParts) : Type 0 where
  pub head_old : IsOld s row
  pub lower : PartsStand format content s left
  pub upper : PartsStand format content s right
  pub once : (x : ℕ) → times x (row ∷ []) + in_parts format lower x + in_parts format upper x ≤ 1

-- how often a row stands in both sides and the head
abbrev pub in_both : (format : Format) {content : Content} {s : State} {row : ℕ}
    {left right : NodeParts}
    → BothStand format content s row left right → ℕ → ℕ
in_both format {row = row} b x =
    times x (row ∷ []) + in_parts format b.lower x + in_parts format b.upper x
