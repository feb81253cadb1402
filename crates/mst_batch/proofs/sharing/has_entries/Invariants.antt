use Rattle.mst_batch.proofs.Names.{◌≡◌, length, Format, Chain, LiesBehind, Onward, plan_of}
use Rattle.mst_batch.proofs.SameNodes.{IsSameFrom}
use Rattle.mst_batch.proofs.sharing.has_entries.Given as goal

-- the entries so far are those to be made
abbrev pub invariant-loop-entry : goal.invariant-loop-entry
invariant-loop-entry g l = record {
  same : l.rows ≡ l.initial.rows;
  onward : (f : Format) (c : Chain) → LiesBehind f (g.R.Rows.content l.initial.rows) l.head c
      → Onward f (g.R.Rows.content l.initial.rows) l.head.tail l.next l.entry-index
      (length l.entries) (IsSameFrom l.entries (plan_of l.tail) c l.entry-index);
}
