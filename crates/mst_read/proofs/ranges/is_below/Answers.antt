use Rattle.mst_read.proofs.Ways.{below_in_gap, below_at_key, below_past}
use Rattle.mst_read.proofs.ranges.is_below.Goals as goal

pub returns-in-Child-clause-below : goal.returns-in-Child-clause-below
returns-in-Child-clause-below g c e read =
    rw c.in-Some.is (below_in_gap (g.R.Rows.content c.args.rows.now) c.args.row c.in-Some.bound read
    c.way.ensures.way c.in-Child.is)

pub returns-in-Here-clause-below : goal.returns-in-Here-clause-below
returns-in-Here-clause-below g c e read =
    rw c.in-Some.is (below_at_key (g.R.Rows.content c.args.rows.now) c.args.row c.in-Some.bound read
    c.way.ensures.way c.in-Here.is)

pub returns-in-Next-clause-below : goal.returns-in-Next-clause-below
returns-in-Next-clause-below g c e read =
    rw c.in-Some.is (below_past (g.R.Rows.content c.args.rows.now) c.args.row c.in-Some.bound read
    c.way.ensures.way c.in-Next.is)
