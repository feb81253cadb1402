use Rattle.mst_path.proofs.Names.{height_at}
use Rattle.mst_path.proofs.counting.+put_cost.Given as goal

abbrev pub decreases-put_cost : goal.decreases-put_cost
decreases-put_cost g l = height_at (g.R.Rows.content l.rows.now) l.link
