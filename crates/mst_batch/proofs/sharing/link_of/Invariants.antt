use Rattle.mst_batch.proofs.Names.{◌≡◌, depth, link_of_key}
use Rattle.mst_read.specs.Search.{MapStands}
use Rattle.mst_batch.proofs.KeyLinks.{Reached}
use Rattle.mst_batch.proofs.sharing.link_of.Given as goal

-- the link that is sought in the tree under the search is the one in the whole tree
abbrev pub invariant-loop-top : goal.invariant-loop-top
invariant-loop-top g l = record {
  same : l.rows ≡ l.fn.rows;
  reached : (s : MapStands (g.R.Rows.content l.fn.rows) l.root)
      → Reached s.0 (g.R.Rows.content l.fn.rows) l.key l.at l.top
      (link_of_key l.key s.2.tree.placed);
}

-- layers fall
abbrev pub decreases-loop-top : goal.decreases-loop-top
decreases-loop-top g l = depth l.top
