-- Edits that put values at keys that a map has, in a part of a tree that stands.
use Rattle.std.specs.Prelude.{ℕ, List, IsSome}
use Rattle.std.specs.List.{AllByRecursion}
use Rattle.mst_key.specs.declared.format.Format.{Format}
use Rattle.mst_key.specs.declared.history.Edit.{Edit}
use Rattle.mst_key.specs.declared.history.Edit.TheVariants as edit
use Rattle.mst_key.specs.Map.{Pair, map_get}
use Rattle.mst_node.specs.Tree.{pairs}
use Rattle.mst_arena.specs.Content.{Content}
use Rattle.mst_arena.specs.declared.row.Root.{Root}
use Rattle.mst_arena.specs.Standing.{Stands, tree_of}
use Rattle.mst_batch.specs.Opening.{PartOf}

-- the edit puts a value at a key that the map has
abbrev pub IsUpdate : List Pair → Edit → Type 0
IsUpdate m (edit.Put k v) = IsSome (map_get m k)
IsUpdate m (edit.Remove k) = ⊥

abbrev pub AreUpdates : List Pair → List Edit → Type 0
AreUpdates m es = AllByRecursion (IsUpdate m) es

-- at the link is a part of the tree that stands at the root, and each edit puts a value at a key of
-- this part
pub record Updates (format : Format) (content : Content) (root : Root) (m : List Pair) (link : ℕ)
    (edits : List Edit) : Type 0 where
  pub stands : Stands format content root m
  pub part : PartOf format content stands.tree.placed link
  pub each : AreUpdates (pairs (tree_of format part.placed)) edits
