use Rattle.mst_batch.proofs.Names.{◌≡◌, ◌≤◌, ◌+◌, ◌*◌, List, length, map, batched, Pair, pairs, tree_of, height_at, listed, AreKnown, all_known, known_of_entry, planned_entry, Updates}
use Rattle.mst_batch.proofs.UpdateSteps.{Updating}
use Rattle.mst_batch.proofs.updating.+update.Given as goal

-- layers fall
abbrev pub decreases-updated : goal.decreases-updated
decreases-updated g l = height_at (g.R.Rows.content l.rows.now) l.link * 2 + 1

abbrev pub decreases-update_node : goal.decreases-update_node
decreases-update_node g l = height_at (g.R.Rows.content l.rows.now) l.link * 2

-- the entries so far are planned, each with the tree before it
abbrev pub invariant-update_node-loop : goal.invariant-update_node-loop
invariant-update_node-loop g l = record {
  same : l.rows ≡ l.fn.rows;
  room : length l.left ≤ length l.edits;
  updating : (m : List Pair)
      (u : Updates l.fn.format (g.R.Rows.content l.fn.rows) l.fn.root m l.fn.link
      (listed l.fn.edits))
      → Updating l.fn.format (g.R.Rows.content l.fn.rows) u.stands.tree.placed l.head.layer
      (map planned_entry l.entries.items)
      (batched (pairs (tree_of l.fn.format u.part.placed)) (listed l.fn.edits)) (listed l.left)
      l.head.tail l.next l.counter l.head.count;
  known : (m : List Pair)
      (u : Updates l.fn.format (g.R.Rows.content l.fn.rows) l.fn.root m l.fn.link
      (listed l.fn.edits))
      → AreKnown l.fn.format u.stands.tree.placed (all_known (map known_of_entry l.entries.items));
}
