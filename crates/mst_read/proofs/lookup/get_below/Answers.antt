use Rattle.mst_read.proofs.Names.{refl, ◌∙◌, sym, ap, arith, entry_value, LinkStands}
use Rattle.mst_read.proofs.Still.{there_still, read_before}
use Rattle.mst_read.proofs.Descend.{Ahead, there_at, reached_at, node_there, ahead_there, reach, lower, inside, at_nothing, depth_is}
use Rattle.mst_read.proofs.Look.{Finds, in_gap, value_found, value_there}
use Rattle.mst_read.proofs.lookup.get_below.Given.{Over}
use Rattle.mst_read.proofs.lookup.get_below.Goals.{After-head_at-top-in-Gap}
use Rattle.mst_read.proofs.lookup.get_below.Goals as goal

pub head_at-top-requires : goal.head_at-top-requires
head_at-top-requires g c = record { lies = there_at c.requires.stands.2 }

pub loop-top-init : goal.loop-top-init
loop-top-init g c = record {
  same = c.head_at-top.ensures.same;
  reached = λ s. reached_at s.2 (Finds c.args.key.now s.1) refl c.head_at-top.ensures.head;
}

pub seek-requires : goal.seek-requires
seek-requires g c =
    record {
      lies =
          node_there (inside (c.loop-top.invariant.reached c.requires.stands) c.in-Some.is)
          (ap g.R.Rows.content c.loop-top.invariant.same);
    }

-- ---- the node has the key

pub value-requires : goal.value-requires
value-requires g c =
    let there = value_there c.args.key.now c.requires.stands.1
    (inside (c.loop-top.invariant.reached c.requires.stands) c.in-Some.is)
    (ap g.R.Rows.content c.loop-top.invariant.same)
    (rw c.new-sought.ensures.key at c.seek.ensures.place) c.in-Found.is in
    record {
      there =
          there_still (ap g.R.Rows.content (c.seek.ensures.same ∙ c.loop-top.invariant.same))
          entry_value c.in-Found.row there;
    }

pub returns-in-Found-clause-found : goal.returns-in-Found-clause-found
returns-in-Found-clause-found g c f m s =
    sym (read_before (ap g.R.Rows.content (c.seek.ensures.same ∙ c.loop-top.invariant.same))
    entry_value c.in-Found.row c.value.ensures.value)
    ∙ value_found c.args.key.now m (inside (c.loop-top.invariant.reached (f, m, s)) c.in-Some.is)
    (ap g.R.Rows.content c.loop-top.invariant.same)
    (rw c.new-sought.ensures.key at c.seek.ensures.place) c.in-Found.is

-- ---- the search goes on in a gap

pub head_at-top-requires-in-Gap : goal.head_at-top-requires-in-Gap
head_at-top-requires-in-Gap g c =
    let gap = in_gap c.args.key.now c.requires.stands.1
    (inside (c.loop-top.invariant.reached c.requires.stands) c.in-Some.is)
    (ap g.R.Rows.content c.loop-top.invariant.same)
    (rw c.new-sought.ensures.key at c.seek.ensures.place) c.in-Gap.is in
    record {
      lies =
          ahead_there gap (ap g.R.Rows.content (c.seek.ensures.same ∙ c.loop-top.invariant.same));
    }

module _ (g : Over) (c : goal.After-head_at-top-in-Gap g)
    (s : LinkStands (g.R.Rows.content c.args.rows.now) c.args.link) where
  ahead : Ahead s.0 (g.R.Rows.content c.args.rows.now) c.in-Some.head.layer c.in-Gap.link
      (Finds c.args.key.now s.1)
  ahead = in_gap c.args.key.now s.1 (inside (c.loop-top.invariant.reached s) c.in-Some.is)
      (ap g.R.Rows.content c.loop-top.invariant.same)
      (rw c.new-sought.ensures.key at c.seek.ensures.place) c.in-Gap.is

pub loop-top-smaller : goal.loop-top-smaller
loop-top-smaller g c =
    omega (
      arith,
      depth_is c.in-Some.is,
      lower (ahead g c c.requires.stands)
          (ap g.R.Rows.content (c.seek.ensures.same ∙ c.loop-top.invariant.same))
          c.head_at-top-in-Gap.ensures.head,
    )

pub loop-top-preserved : goal.loop-top-preserved
loop-top-preserved g c = record {
  same = c.head_at-top-in-Gap.ensures.same ∙ c.seek.ensures.same ∙ c.loop-top.invariant.same;
  reached =
      λ s. reach (ahead g c s)
      (ap g.R.Rows.content (c.seek.ensures.same ∙ c.loop-top.invariant.same))
      c.head_at-top-in-Gap.ensures.head;
}

pub returns-clause-found : goal.returns-clause-found
returns-clause-found g c f m s = at_nothing (c.loop-top.invariant.reached (f, m, s)) c.in_default.is
