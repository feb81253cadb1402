use Rattle.mst_read.proofs.Names.{◌≡◌, LinkStands}
use Rattle.mst_read.proofs.Descend.{Reached, depth}
use Rattle.mst_read.proofs.Look.{Finds}
use Rattle.mst_read.proofs.lookup.get_below.Given as goal

-- the key has in the tree under the search the value that it has in the map
abbrev pub invariant-loop-top : goal.invariant-loop-top
invariant-loop-top g l = record {
  same : l.rows ≡ l.fn.rows;
  reached : (s : LinkStands (g.R.Rows.content l.fn.rows) l.link)
      → Reached s.0 (g.R.Rows.content l.fn.rows) l.top (Finds l.key s.1);
}

-- layers fall
abbrev pub decreases-loop-top : goal.decreases-loop-top
decreases-loop-top g l = depth l.top
