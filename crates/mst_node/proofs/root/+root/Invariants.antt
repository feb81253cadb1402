use Rattle.mst_node.proofs.Names.{◌≡◌, ◌≤◌, ◌+◌, ◌*◌, ℕ, List, ◌++◌, drop, slice_range, Holds256, layer_in, tree, entries_of, text, IsTop}
use Rattle.mst_node.proofs.TreeEquation.{Has}
use Rattle.mst_node.proofs.TopNodes.{entries_text}
use Rattle.mst_node.proofs.Heights.{height_of}
use Rattle.mst_node.proofs.root.+root.Given as goal

-- layers fall from a node to its gaps
abbrev pub decreases-digest_of : goal.decreases-digest_of
decreases-digest_of l = 2 * height_of (layer_in l.format) l.pairs.now

abbrev pub decreases-gap_digest : goal.decreases-gap_digest
decreases-gap_digest l = 2 * height_of (layer_in l.format) l.pairs.now + 1

-- the hasher holds the front of the text, which goes on with the entries that the gap so far and
-- the other pairs make, and the gap is below the layer
abbrev pub invariant-digest_of-loop-i : goal.invariant-digest_of-loop-i
invariant-digest_of-loop-i l = record {
  within : l.start ≤ l.i;
  low : height_of (layer_in l.format) (slice_range l.pairs l.start l.i) ≤ l.top.layer;
  some : l.start ≡ 0 → Has (layer_in l.format) l.top.layer (drop l.i l.pairs);
  gap_top : IsTop l.format (slice_range l.pairs l.start l.i) l.gap;
  fed : (front : List ℕ) × Holds256 l.hasher front
      × (front ++ entries_text l.format
      (entries_of (layer_in l.format) (tree l.format) l.top.layer (slice_range l.pairs l.start l.i)
      (drop l.i l.pairs)) ≡ text (tree l.format l.pairs));
}
