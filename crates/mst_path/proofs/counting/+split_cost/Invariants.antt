use Rattle.mst_path.proofs.Names.{height_at}
use Rattle.mst_path.proofs.counting.+split_cost.Given as goal

abbrev pub decreases-split_cost : goal.decreases-split_cost
decreases-split_cost g l = height_at (g.R.Rows.content l.rows.now) l.link
