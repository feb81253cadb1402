use Rattle.mst_batch.proofs.Names.{◌≡◌, ◌++◌, Format, Placed, Lies, Onward, chain_items, node_items}
use Rattle.mst_batch.proofs.top.push_node.Given as goal

-- what is added so far, with the items of the other entries, are the items of the node
abbrev pub invariant-loop : goal.invariant-loop
invariant-loop g l = record {
  same : l.rows ≡ l.fn.rows;
  onward : (format : Format) (p : Placed) → Lies format (g.R.Rows.content l.fn.rows) l.fn.link p
      → Onward format (g.R.Rows.content l.fn.rows) l.head.tail l.next l.counter l.head.count
      (λ rest. l.items.items ++ chain_items l.head.layer rest ≡ l.fn.items.items ++ node_items p);
}
