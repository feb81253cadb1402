use Rattle.mst_path.proofs.Names.{height_at}
use Rattle.mst_path.proofs.finding.+find.Given as goal

abbrev pub decreases-find : goal.decreases-find
decreases-find g l = height_at (g.R.Rows.content l.rows.now) l.link
