use Rattle.mst_read.proofs.Names.{Some, ◌∙◌, sym, ap, subst, arith, option_copied, keyed_links, entry_pair, LinkStands}
use Rattle.mst_read.proofs.Still.{there_still, read_before}
use Rattle.mst_read.proofs.Descend.{Ahead, there_at, reached_at, node_there, ahead_there, reach, lower, inside, at_nothing, depth_is}
use Rattle.mst_read.proofs.Successor.{Answers, HasPair, pair_at, pair_there, at_start, in_tail, before_entry, pair_met}
use Rattle.mst_read.proofs.following.next_below.Given.{Over}
use Rattle.mst_read.proofs.following.next_below.Goals.{After-head_at-top-in-Some-first_entry, After-head_at-top-in-None}
use Rattle.mst_read.proofs.following.next_below.Goals as goal

pub head_at-top-requires : goal.head_at-top-requires
head_at-top-requires g c = record { lies = there_at c.requires.stands.2 }

pub loop-top-init : goal.loop-top-init
loop-top-init g c = record {
  same = c.head_at-top.ensures.same;
  limits = c.head_at-top.ensures.limits;
  pair = tt;
  reached =
      λ s. reached_at s.2 _
      (at_start (g.R.Rows.content c.args.rows.now) (option_copied c.args.after) s.1)
      c.head_at-top.ensures.head;
}

pub first_entry-requires-clause-lies : goal.first_entry-requires-clause-lies
first_entry-requires-clause-lies g c =
    node_there (inside (c.loop-top.invariant.reached c.requires.stands) c.in-Some.is)
    (ap g.R.Rows.content c.loop-top.invariant.same)

-- ---- the search goes on before the first entry above the bound

pub head_at-top-requires-in-Some-first_entry : goal.head_at-top-requires-in-Some-first_entry
head_at-top-requires-in-Some-first_entry g c =
    let gap = before_entry (option_copied c.args.after) c.loop-top.right c.requires.stands.1
    (inside (c.loop-top.invariant.reached c.requires.stands) c.in-Some.is)
    (ap g.R.Rows.content c.loop-top.invariant.same)
    (rw c.sought-bound.ensures at c.first_entry.ensures.first) c.in-Some-first_entry.is in
    record {
      lies =
          ahead_there gap
          (ap g.R.Rows.content (c.first_entry.ensures.same ∙ c.loop-top.invariant.same));
    }

module _ (g : Over) (c : goal.After-head_at-top-in-Some-first_entry g)
    (s : LinkStands (g.R.Rows.content c.args.rows.now) c.args.link) where
  before : Ahead s.0 (g.R.Rows.content c.args.rows.now) c.in-Some.head.layer
      c.in-Some-first_entry.child
      (Answers (g.R.Rows.content c.args.rows.now) (option_copied c.args.after)
      (Some c.in-Some-first_entry.row) s.1)
  before = before_entry (option_copied c.args.after) c.loop-top.right s.1
      (inside (c.loop-top.invariant.reached s) c.in-Some.is)
      (ap g.R.Rows.content c.loop-top.invariant.same)
      (rw c.sought-bound.ensures at c.first_entry.ensures.first) c.in-Some-first_entry.is

pub loop-top-smaller-in-Some-first_entry : goal.loop-top-smaller-in-Some-first_entry
loop-top-smaller-in-Some-first_entry g c =
    omega (
      arith,
      depth_is c.in-Some.is,
      lower (before g c c.requires.stands)
          (ap g.R.Rows.content (c.first_entry.ensures.same ∙ c.loop-top.invariant.same))
          c.head_at-top-in-Some-first_entry.ensures.head,
    )

pub loop-top-preserved-in-Some-first_entry : goal.loop-top-preserved-in-Some-first_entry
loop-top-preserved-in-Some-first_entry g c = record {
  same = c.head_at-top-in-Some-first_entry.ensures.same ∙ c.first_entry.ensures.same
      ∙ c.loop-top.invariant.same;
  limits = c.head_at-top-in-Some-first_entry.ensures.limits;
  pair = pair_met (option_copied c.args.after) c.loop-top.right c.requires.stands.1
      (inside (c.loop-top.invariant.reached c.requires.stands) c.in-Some.is)
      (ap g.R.Rows.content c.loop-top.invariant.same)
      (rw c.sought-bound.ensures at c.first_entry.ensures.first) c.in-Some-first_entry.is;
  reached =
      λ s. reach (before g c s)
      (ap g.R.Rows.content (c.first_entry.ensures.same ∙ c.loop-top.invariant.same))
      c.head_at-top-in-Some-first_entry.ensures.head;
}

-- ---- the search goes on in the last gap

pub head_at-top-requires-in-None : goal.head_at-top-requires-in-None
head_at-top-requires-in-None g c =
    let gap = in_tail (option_copied c.args.after) c.loop-top.right c.requires.stands.1
    (inside (c.loop-top.invariant.reached c.requires.stands) c.in-Some.is)
    (ap g.R.Rows.content c.loop-top.invariant.same)
    (rw c.sought-bound.ensures at c.first_entry.ensures.first) c.in-None.is in
    record {
      lies =
          ahead_there gap
          (ap g.R.Rows.content (c.first_entry.ensures.same ∙ c.loop-top.invariant.same));
    }

module _ (g : Over) (c : goal.After-head_at-top-in-None g)
    (s : LinkStands (g.R.Rows.content c.args.rows.now) c.args.link) where
  last : Ahead s.0 (g.R.Rows.content c.args.rows.now) c.in-Some.head.layer c.in-Some.head.tail
      (Answers (g.R.Rows.content c.args.rows.now) (option_copied c.args.after) c.loop-top.right s.1)
  last = in_tail (option_copied c.args.after) c.loop-top.right s.1
      (inside (c.loop-top.invariant.reached s) c.in-Some.is)
      (ap g.R.Rows.content c.loop-top.invariant.same)
      (rw c.sought-bound.ensures at c.first_entry.ensures.first) c.in-None.is

pub loop-top-smaller : goal.loop-top-smaller
loop-top-smaller g c =
    omega (
      arith,
      depth_is c.in-Some.is,
      lower (last g c c.requires.stands)
          (ap g.R.Rows.content (c.first_entry.ensures.same ∙ c.loop-top.invariant.same))
          c.head_at-top-in-None.ensures.head,
    )

pub loop-top-preserved : goal.loop-top-preserved
loop-top-preserved g c = record {
  same = c.head_at-top-in-None.ensures.same ∙ c.first_entry.ensures.same
      ∙ c.loop-top.invariant.same;
  limits = c.head_at-top-in-None.ensures.limits;
  pair = c.loop-top.invariant.pair;
  reached =
      λ s. reach (last g c s)
      (ap g.R.Rows.content (c.first_entry.ensures.same ∙ c.loop-top.invariant.same))
      c.head_at-top-in-None.ensures.head;
}

-- ---- the answer is the pair to the right

pub returns-in_err-row-clause-found : goal.returns-in_err-row-clause-found
returns-in_err-row-clause-found g c f m s =
    c.from_residual.ensures ∙ sym (ap (pair_at (g.R.Rows.content c.args.rows.now)) c.in_err-row.was)
    ∙ at_nothing (c.loop-top.invariant.reached (f, m, s)) c.in_default.is

pub pair-requires : goal.pair-requires
pair-requires g c =
    let there = subst (HasPair (g.R.Rows.content c.args.rows.now)) c.in_ok-row.was
    c.loop-top.invariant.pair in
    record {
      there = there_still (ap g.R.Rows.content c.loop-top.invariant.same) keyed_links
          c.in_ok-row.row (pair_there (g.R.Rows.content c.args.rows.now c.in_ok-row.row) there);
    }

pub returns-clause-found : goal.returns-clause-found
returns-clause-found g c f m s =
    sym (read_before (ap g.R.Rows.content c.loop-top.invariant.same) entry_pair c.in_ok-row.row
    c.pair.ensures.value)
    ∙ sym (ap (pair_at (g.R.Rows.content c.args.rows.now)) c.in_ok-row.was)
    ∙ at_nothing (c.loop-top.invariant.reached (f, m, s)) c.in_default.is
