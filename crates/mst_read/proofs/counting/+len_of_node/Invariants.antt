use Rattle.mst_read.proofs.Names.{◌≡◌, entries_pairs, entries_of}
use Rattle.std.specs.Prelude.{length}
use Rattle.mst_read.proofs.Walk.{Onward}
use Rattle.mst_read.proofs.Gathering.{SomePart}
use Rattle.mst_read.proofs.Lengths.{Left}
use Rattle.mst_read.proofs.counting.+len_of_node.Given as goal

-- layers fall
abbrev pub decreases-len_of_node : goal.decreases-len_of_node
decreases-len_of_node g l = l.node.now.layer

-- what is counted so far, with the pairs of the rest of the node, is what the whole node has
abbrev pub invariant-loop : goal.invariant-loop
invariant-loop g l = record {
  same : l.rows ≡ l.fn.rows;
  onward : (s : SomePart (g.R.Rows.content l.fn.rows) l.fn.node)
      → Onward s.0 (g.R.Rows.content l.fn.rows) l.node.tail l.link l.counter l.end
      (Left s.0 l.node.layer l.len (length (entries_pairs (entries_of s.0 s.1))));
}
