use Rattle.mst_path.proofs.Names.{height_at}
use Rattle.mst_path.proofs.remove_path.+remove_at.Given as goal

abbrev pub decreases-remove_at : goal.decreases-remove_at
decreases-remove_at g l = height_at (g.R.Rows.content l.rows.now) l.link
