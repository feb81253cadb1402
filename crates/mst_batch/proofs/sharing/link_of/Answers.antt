use Rattle.mst_batch.proofs.Names.{◌∙◌, ap, arith, link_of_key}
use Rattle.mst_read.specs.Search.{MapStands}
use Rattle.mst_read.proofs.Descend.{there_at, depth_is}
use Rattle.mst_batch.proofs.KeyLinks.{Ahead, from_root, inside, at_nothing, node_there, found_here, in_gap, ahead_there, reach, lower}
use Rattle.mst_batch.proofs.sharing.link_of.Given.{Over}
use Rattle.mst_batch.proofs.sharing.link_of.Goals.{After-head_at-top-in-Gap}
use Rattle.mst_batch.proofs.sharing.link_of.Goals as goal

pub head_at-top-requires : goal.head_at-top-requires
head_at-top-requires g c = record { lies = there_at c.requires.stands.2 }

pub loop-top-init : goal.loop-top-init
loop-top-init g c = record {
  same = c.head_at-top.ensures.same;
  reached = λ s. from_root c.args.key.now s.2 c.head_at-top.ensures.head;
}

pub seek-requires : goal.seek-requires
seek-requires g c =
    record {
      lies =
          node_there (inside (c.loop-top.invariant.reached c.requires.stands) c.in-Some.is)
          (ap g.R.Rows.content c.loop-top.invariant.same);
    }

pub returns-in-Found-clause-link : goal.returns-in-Found-clause-link
returns-in-Found-clause-link g c f m s =
    found_here (inside (c.loop-top.invariant.reached (f, m, s)) c.in-Some.is)
    (ap g.R.Rows.content c.loop-top.invariant.same) c.seek.ensures.place c.in-Found.is

-- ---- the search goes on in a gap

module _ (g : Over) (c : goal.After-head_at-top-in-Gap g)
    (s : MapStands (g.R.Rows.content c.args.rows.now) c.args.root.now) where
  ahead : Ahead s.0 (g.R.Rows.content c.args.rows.now) c.args.key.now c.in-Some.head.layer
      c.in-Gap.below (link_of_key c.args.key.now s.2.tree.placed)
  ahead = in_gap (inside (c.loop-top.invariant.reached s) c.in-Some.is)
      (ap g.R.Rows.content c.loop-top.invariant.same) c.seek.ensures.place c.in-Gap.is

pub head_at-top-requires-in-Gap : goal.head_at-top-requires-in-Gap
head_at-top-requires-in-Gap g c =
    record {
      lies =
          ahead_there (in_gap (inside (c.loop-top.invariant.reached c.requires.stands) c.in-Some.is)
          (ap g.R.Rows.content c.loop-top.invariant.same) c.seek.ensures.place c.in-Gap.is)
          (ap g.R.Rows.content (c.seek.ensures.same ∙ c.loop-top.invariant.same));
    }

pub loop-top-smaller : goal.loop-top-smaller
loop-top-smaller g c =
    omega (
      arith,
      depth_is c.in-Some.is,
      lower (ahead g c c.requires.stands)
          (ap g.R.Rows.content (c.seek.ensures.same ∙ c.loop-top.invariant.same))
          c.head_at-top-in-Gap.ensures.head,
    )

pub loop-top-preserved : goal.loop-top-preserved
loop-top-preserved g c = record {
  same = c.head_at-top-in-Gap.ensures.same ∙ c.seek.ensures.same ∙ c.loop-top.invariant.same;
  reached =
      λ s. reach (ahead g c s)
      (ap g.R.Rows.content (c.seek.ensures.same ∙ c.loop-top.invariant.same))
      c.head_at-top-in-Gap.ensures.head;
}

pub returns-clause-link : goal.returns-clause-link
returns-clause-link g c f m s = at_nothing (c.loop-top.invariant.reached (f, m, s)) c.in_default.is
