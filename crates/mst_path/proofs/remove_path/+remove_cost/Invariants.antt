use Rattle.mst_path.proofs.Names.{height_at}
use Rattle.mst_path.proofs.remove_path.+remove_cost.Given as goal

abbrev pub decreases-remove_cost : goal.decreases-remove_cost
decreases-remove_cost g l = height_at (g.R.Rows.content l.rows.now) l.link
