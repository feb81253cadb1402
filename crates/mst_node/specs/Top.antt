-- The top node of a list's tree, without the tree: its layer, and how many entries it has.
use Rattle.std.specs.Prelude.{◌≡◌, ◌==◌, List, length, filter}
use Rattle.mst_key.specs.declared.format.Format.{Format}
use Rattle.mst_key.specs.Layer.{layer_in}
use Rattle.mst_key.specs.Map.{Pair}
use Rattle.mst_node.specs.Tree.{layers, greatest}
use Rattle.mst_node.specs.declared.root.Top.{Top}

-- the greatest layer of the keys, and how many keys have it
pub record IsTop (format : Format) (m : List Pair) (top : Top) : Type 0 where
  pub layer : top.layer ≡ greatest (layers (layer_in format) m)
  pub count : top.count ≡ length (filter (λ p. layer_in format p.0 == top.layer) m)
