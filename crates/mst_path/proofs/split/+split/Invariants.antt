use Rattle.mst_path.proofs.Names.{height_at}
use Rattle.mst_path.proofs.split.+split.Given as goal

-- layers fall
abbrev pub decreases-split : goal.decreases-split
decreases-split g l = height_at (g.R.Rows.content l.rows.now) l.link
