use Rattle.mst_read.proofs.Names.{Some, ◌∙◌, ap, arith, rules}
use Rattle.mst_read.proofs.Gathering.{at_none, ok_same}
use Rattle.mst_read.proofs.Parts.{gap, rest, gap_there, gap_stands, gap_falls, rest_stands, sums}
use Rattle.mst_read.proofs.ranges.+gather_from.Goals as goal

pub returns-in_default-clause-found : goal.returns-in_default-clause-found
returns-in_default-clause-found g t c f p s =
    at_none (Some c.args.from.now) c.args.to.now c.args.limit c.args.found.now.items p
    c.in_default.is s

pub head_at-gap-requires : goal.head_at-gap-requires
head_at-gap-requires g t c =
    record {
      lies = gap_there c.args.from.now c.in-Some.is c.requires.stands.2
          c.part_from-link.ensures.part (ap g.R.Rows.content c.part_from-link.ensures.same);
    }

pub gather_from-requires : goal.gather_from-requires
gather_from-requires g t c κs within =
    let s = c.requires.stands in
    let same = ap g.R.Rows.content c.part_from-link.ensures.same in
    let falls = gap_falls c.args.from.now c.in-Some.is s.2 c.part_from-link.ensures.part same
    c.head_at-gap.ensures.head in
    let stands = gap_stands c.args.from.now c.in-Some.is s.2 c.part_from-link.ensures.part same
    c.head_at-gap.ensures.head (ap g.R.Rows.content c.head_at-gap.ensures.same) in (
      omega (arith, falls, c.decreases),
      (
        search rules,
        (
          search rules,
          (
            s.0,
            gap c.args.from.now c.in-Some.is s.2 c.part_from-link.ensures.part,
            stands,
          ),
        ),
      ),
    )

pub gather_behind-requires : goal.gather_behind-requires
gather_behind-requires g t c =
    let s = c.requires.stands in
    record {
      stands = (
        s.0,
        rest c.args.from.now c.in-Some.is s.2 c.part_from-link.ensures.part,
        rest_stands c.args.from.now c.in-Some.is s.2 c.part_from-link.ensures.part
            (ap g.R.Rows.content (c.gather_from.ensures.same ∙ c.head_at-gap.ensures.same
            ∙ c.part_from-link.ensures.same)),
      );
    }

pub returns-clause-found : goal.returns-clause-found
returns-clause-found g t c f p s =
    let k = c.args.from.now in
    let read = c.part_from-link.ensures.part in
    let behind =
    rest_stands k c.in-Some.is s read
    (ap g.R.Rows.content (c.gather_from.ensures.same ∙ c.head_at-gap.ensures.same
    ∙ c.part_from-link.ensures.same)) in
    let before =
    gap_stands k c.in-Some.is s read (ap g.R.Rows.content c.part_from-link.ensures.same)
    c.head_at-gap.ensures.head (ap g.R.Rows.content c.head_at-gap.ensures.same) in
    ok_same c.gather_behind.result _ _ _
    (c.gather_behind.ensures.found f (rest k c.in-Some.is s read) behind)
    (sums k c.in-Some.is s read c.args.to.now c.args.limit c.args.found.now.items _
    (c.in_ok-gather_from.ensures.found f (gap k c.in-Some.is s read) before))
