use Rattle.mst_batch.proofs.Names.{◌≡◌, ◌≤◌, ◌+◌, ◌*◌, map, slice_range, height_of, planned_entry, all_known, known_of_entry}
use Rattle.mst_batch.proofs.Builds.{SoFar, KnownBeside}
use Rattle.mst_batch.proofs.building.+build.Given as goal

-- layers fall from a node to its gaps
abbrev pub decreases-build : goal.decreases-build
decreases-build g l = 2 * height_of l.items.now + 1

abbrev pub decreases-build_node : goal.decreases-build_node
decreases-build_node g l = 2 * (l.layer + 1)

-- the entries so far, and the items since the last of them, which are below the layer
abbrev pub invariant-build_node-loop-i : goal.invariant-build_node-loop-i
invariant-build_node-loop-i g l = record {
  same : l.rows ≡ l.fn.rows;
  gap : l.start ≤ l.i;
  low : height_of (slice_range l.items l.start l.i) ≤ l.layer;
  entries : SoFar (g.R.Rows.content l.fn.rows) l.root l.layer l.items l.start l.i
      (map planned_entry l.entries.items);
  known : KnownBeside (g.R.Rows.content l.fn.rows) l.root l.items
      (all_known (map known_of_entry l.entries.items));
}
