use Rattle.mst_read.proofs.Names.{◌≡◌, option_copied, IfSome, IsHead, LinkStands}
use Rattle.mst_read.proofs.Descend.{Reached, depth}
use Rattle.mst_read.proofs.Successor.{Answers, HasPair}
use Rattle.mst_read.proofs.following.next_below.Given as goal

-- the answer is in the tree under the search, or otherwise it is the pair to the right
abbrev pub invariant-loop-top : goal.invariant-loop-top
invariant-loop-top g l = record {
  same : l.rows ≡ l.fn.rows;
  limits : IfSome l.top IsHead;
  pair : HasPair (g.R.Rows.content l.fn.rows) l.right;
  reached : (s : LinkStands (g.R.Rows.content l.fn.rows) l.link)
      → Reached s.0 (g.R.Rows.content l.fn.rows) l.top
      (Answers (g.R.Rows.content l.fn.rows) (option_copied l.after) l.right s.1);
}

-- layers fall
abbrev pub decreases-loop-top : goal.decreases-loop-top
decreases-loop-top g l = depth l.top
