use Rattle.mst_read.proofs.Descend.{depth}
use Rattle.mst_read.proofs.ranges.+gather_from.Given as goal

-- layers fall
abbrev pub decreases-gather_from : goal.decreases-gather_from
decreases-gather_from g l = depth l.top
