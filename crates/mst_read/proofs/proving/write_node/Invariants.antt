use Rattle.mst_read.proofs.Names.{◌≡◌, ◌≤◌, ◌+◌, ◌*◌, ℕ, List, length, IfSome, node, text, Chain, entries_of, LiesBehind}
use Rattle.mst_read.proofs.Walk.{Onward}
use Rattle.mst_read.proofs.NodeTexts.{Completes}
use Rattle.mst_read.proofs.proving.write_node.Given as goal

-- what is written, with the text of the rest, is the text of the whole node; each entry takes at
-- most 131 bytes
abbrev pub invariant-loop : goal.invariant-loop
invariant-loop g l = record {
  same : l.rows ≡ l.initial.rows;
  written : (m : List ℕ) × IfSome l.out (λ bytes. bytes ≡ m) × (length m ≤ 4 + 131 * l.counter)
      × ((c : Chain) → LiesBehind l.format (g.R.Rows.content l.initial.rows) l.head c
      → Onward l.format (g.R.Rows.content l.initial.rows) l.head.tail l.link l.counter l.end
      (Completes l.format m (text (node l.format l.head.layer (entries_of l.format c)))));
}
