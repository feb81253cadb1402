use Rattle.mst_node.proofs.Names.{◌≡◌, ◌≤◌, [], map, drop, slice_range, layer_in, tree, entries_of, tree_entry, with_entries}
use Rattle.mst_node.proofs.TreeEquation.{Has}
use Rattle.mst_node.proofs.Heights.{height_of}
use Rattle.mst_node.proofs.making.+subtree.Given as goal

-- layers fall from a node to its gaps
abbrev pub decreases-subtree : goal.decreases-subtree
decreases-subtree g l = height_of (layer_in l.format) l.pairs.now

-- the entries so far stand in front of those that the gap so far and the other pairs make, and the
-- gap is below the layer
abbrev pub invariant-loop-i : goal.invariant-loop-i
invariant-loop-i g l = record {
  gap : l.start ≤ l.i;
  low : height_of (layer_in l.format) (slice_range l.pairs l.start l.i) ≤ l.top;
  entries : with_entries (map (tree_entry l.format) l.entries.items)
      (entries_of (layer_in l.format) (tree l.format) l.top (slice_range l.pairs l.start l.i)
      (drop l.i l.pairs)) ≡ entries_of (layer_in l.format) (tree l.format) l.top [] l.pairs;
  some : l.start ≡ 0 → Has (layer_in l.format) l.top (drop l.i l.pairs);
}
