use Rattle.mst_path.proofs.Names.{◌+◌, height_at}
use Rattle.mst_path.proofs.joining.+join.Given as goal

abbrev pub decreases-join : goal.decreases-join
decreases-join g l = height_at (g.R.Rows.content l.rows.now) l.left + height_at
    (g.R.Rows.content l.rows.now) l.right
