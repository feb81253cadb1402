use Rattle.mst_path.proofs.Names.{◌+◌, height_at}
use Rattle.mst_path.proofs.joining.+join_cost.Given as goal

abbrev pub decreases-join_cost : goal.decreases-join_cost
decreases-join_cost g l = height_at (g.R.Rows.content l.rows.now) l.left + height_at
    (g.R.Rows.content l.rows.now) l.right
