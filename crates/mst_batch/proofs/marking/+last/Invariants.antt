use Rattle.mst_batch.proofs.LastLinks.{IsKeptSoFar}
use Rattle.mst_batch.proofs.marking.+last.Given as goal

-- the greatest link of the last gap and of those so far is kept
abbrev pub invariant-last_link_below-loop-entry : goal.invariant-last_link_below-loop-entry
invariant-last_link_below-loop-entry g l = IsKeptSoFar g.row.B.Denot l.node l.entry-index l.last
