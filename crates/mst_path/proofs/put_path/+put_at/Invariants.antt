use Rattle.mst_path.proofs.Names.{height_at}
use Rattle.mst_path.proofs.put_path.+put_at.Given as goal

abbrev pub decreases-put_at : goal.decreases-put_at
decreases-put_at g l = height_at (g.R.Rows.content l.rows.now) l.link
