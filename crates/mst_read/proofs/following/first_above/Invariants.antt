use Rattle.mst_read.proofs.Names.{◌≡◌, Some, Format, Chain, LiesBehind}
use Rattle.mst_read.proofs.Walk.{Onward}
use Rattle.mst_read.proofs.Ways.{BeginsAbove}
use Rattle.mst_read.proofs.following.first_above.Given as goal

-- the first such entry of the rest is the first of all
abbrev pub invariant-loop-count : goal.invariant-loop-count
invariant-loop-count g l = record {
  same : l.rows ≡ l.fn.rows;
  onward : (f : Format) (c : Chain) → LiesBehind f (g.R.Rows.content l.fn.rows) l.fn.head c
      → Onward f (g.R.Rows.content l.fn.rows) l.fn.head.tail l.first 0 l.count
      (BeginsAbove (Some l.bound) c);
}

-- fewer entries are left
abbrev pub decreases-loop-count : goal.decreases-loop-count
decreases-loop-count g l = l.count
