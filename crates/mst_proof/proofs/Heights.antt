-- How many nodes a trail has: layers fall from node to node, from the format's greatest.
use Rattle.mst_proof.proofs.Names.{Format, ◌≤◌, ◌<◌, ◌+◌, ℕ, List, [], length, arith, Ordering, Less, Equal, Greater, Pair, key_cmp, Tree, empty, node, Entries, last, entry, tree, IsUnder, IsMst, IsMstEntries, by_order, nodes_met, met_in_gap, trail, tree_mst}
use Rattle.mst_key.specs.Layer.{most_layer}
use Rattle.mst_key.proofs.Zeros.{layer_few}
use Rattle.mst_node.specs.Tree.{entry_count}
use Rattle.mst_node.specs.Gaps.{LayersFall, LayersFallIn}
use Rattle.mst_node.proofs.TreeOrder.{layers_fall}

mutual
  met_few : (t : Tree) (k : List ℕ) (l : ℕ) → IsUnder l t → LayersFall t → length (nodes_met k t)
      ≤ l
  met_few empty k l under falls = omega arith
  met_few (node format j es) k l under falls = omega (arith, gap_few es k j falls, under)

  gap_few : (es : Entries) (k : List ℕ) (l : ℕ) → LayersFallIn l es → length (met_in_gap k es) ≤ l
  gap_few (last child) k l falls = met_few child k l falls.0 falls.1
  gap_few (entry child key value rest) k l falls =
      go (key_cmp k key) (met_few child k l falls.0 falls.1) (gap_few rest k l falls.2)
    where
      go : (o : Ordering) → length (nodes_met k child) ≤ l → length (met_in_gap k rest) ≤ l
          → length (by_order o (nodes_met k child) [] (met_in_gap k rest)) ≤ l
      go Less before after = before
      go Equal before after = omega arith
      go Greater before after = after

entries_low : (format : Format) (l : ℕ) (es : Entries) → 0 < entry_count es → IsMstEntries format l
    es → l < most_layer format + 1
entries_low format l (last child) some mst = absurd (omega arith)
entries_low format l (entry child key value rest) some mst =
    omega (arith, layer_few format key, mst.2)

top_low : (format : Format) (t : Tree) → IsMst format t → IsUnder (most_layer format + 1) t
top_low format empty mst = tt
top_low format (node g l es) mst = entries_low format l es mst.1 mst.2

pub trail_few : (format : Format) (m : List Pair) (k : List ℕ) → length (trail format m k)
    ≤ most_layer format + 1
trail_few format m k =
    let t = tree format m in
    met_few t k (most_layer format + 1) (top_low format t (tree_mst format m))
    (layers_fall t format (tree_mst format m))
