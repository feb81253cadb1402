use Rattle.mst_read.proofs.Names.{◌∙◌, sym, ap, head_of, gap_placed}
use Rattle.mst_read.proofs.Still.{lies_still}
use Rattle.mst_read.proofs.Trails.{no_gap_where_found, gap_lies}
use Rattle.mst_read.proofs.proving.gap_met.Goals as goal

pub head_at-requires : goal.head_at-requires
head_at-requires g c =
    let s = c.requires.lies in
    let lies = gap_lies s.0 (g.R.Rows.content c.args.rows.now) c.args.key.now c.in-Gap.link s.1
    s.2.rows (sym (c.seek.ensures.place s.0 s.1 s.2) ∙ c.in-Gap.is) in
    record {
      lies = (
        s.0,
        gap_placed c.args.key.now s.1,
        lies_still (ap g.R.Rows.content c.seek.ensures.same)
            lies,
      );
    }

pub returns-in-Found-clause-head : goal.returns-in-Found-clause-head
returns-in-Found-clause-head g c f chain lies =
    sym (ap head_of
    (no_gap_where_found c.args.key.now c.in-Found._row chain
    (sym (c.seek.ensures.place f chain lies) ∙ c.in-Found.is)))

pub returns-in-Gap-clause-head : goal.returns-in-Gap-clause-head
returns-in-Gap-clause-head g c f chain behind =
    let here = gap_lies f (g.R.Rows.content c.args.rows.now) c.args.key.now c.in-Gap.link chain
    behind.rows (sym (c.seek.ensures.place f chain behind) ∙ c.in-Gap.is) in
    c.head_at.ensures.head f (gap_placed c.args.key.now chain)
    (lies_still (ap g.R.Rows.content c.seek.ensures.same) here)
