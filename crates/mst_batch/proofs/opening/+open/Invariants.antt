use Rattle.mst_batch.proofs.Names.{◌≡◌, ◌≤◌, length, batched, pairs, Placed, tree_of, height_at, listed, PartOf}
use Rattle.mst_batch.proofs.OpeningSteps.{Opening}
use Rattle.mst_batch.proofs.opening.+open.Given as goal

-- layers fall
abbrev pub decreases-open : goal.decreases-open
decreases-open g l = height_at (g.R.Rows.content l.rows.now) l.link

-- the items of the entries so far are added, each with those of the tree before it
abbrev pub invariant-loop : goal.invariant-loop
invariant-loop g l = record {
  same : l.rows ≡ l.fn.rows;
  room : length l.left ≤ length l.edits;
  opening : (whole : Placed)
      (part : PartOf l.fn.format (g.R.Rows.content l.fn.rows) whole l.fn.link)
      → Opening l.fn.format (g.R.Rows.content l.fn.rows) whole l.head.layer l.fn.items.items
      l.items.items (batched (pairs (tree_of l.fn.format part.placed)) (listed l.fn.edits))
      (listed l.left) l.head.tail l.next l.counter l.head.count;
}
