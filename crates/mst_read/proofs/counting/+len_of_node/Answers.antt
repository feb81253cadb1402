use Rattle.mst_read.proofs.Names.{◌-◌, ℕ, refl, sym, ◌∙◌, ap, subst, arith, rules, IsMstEntries, entries_of, links_at}
use Rattle.mst_read.proofs.Still.{part_still}
use Rattle.mst_read.proofs.Descend.{depth_is, lower, reach, inside, at_nothing}
use Rattle.mst_read.proofs.Walk.{at_cell, at_end, child_lies, tail_lies}
use Rattle.mst_read.proofs.Gathering.{SomePart}
use Rattle.mst_read.proofs.Lengths.{lowest, start, gap, last, goes_on, added, none_added, ends, nothing_left, node_stands, node_counts}
use Rattle.mst_read.proofs.counting.+len_of_node.Goals.{in-Some, in_default}
use Rattle.mst_read.proofs.counting.+len_of_node.Goals as goal

pub returns-then-node-eq0-clause-len : goal.returns-then-node-eq0-clause-len
returns-then-node-eq0-clause-len g t c f p s few =
    c.from.ensures
    ∙ sym (lowest f p (subst (λ (n : ℕ). IsMstEntries f n (entries_of f p)) c.if-node-eq0.true
    s.mst) ∙ s.lies.count)

pub loop-init : goal.loop-init
loop-init g t c = record { same = refl; onward = λ s. start s.2 }

-- ---- the tree in the gap before an entry

pub head_at-requires : goal.head_at-requires
head_at-requires g t c =
    let a = at_cell (c.loop.invariant.onward c.requires.stands) c.loop-test.true
    (ap g.R.Rows.content c.loop.invariant.same)
    (links_at (g.R.Rows.content c.loop.rows) (c.loop.link - 1) c.links-links.result
    c.links-links.ensures.value).1 in
    record {
      lies = (
        c.requires.stands.0,
        a.child,
        child_lies a
            (ap g.R.Rows.content (c.links-links.ensures.same ∙ c.loop.invariant.same)),
      );
    }

pub len_of_node-len-requires : goal.len_of_node-len-requires
len_of_node-len-requires g t c κs within =
    let a = at_cell (c.loop.invariant.onward c.requires.stands) c.loop-test.true
    (ap g.R.Rows.content c.loop.invariant.same)
    (links_at (g.R.Rows.content c.loop.rows) (c.loop.link - 1) c.links-links.result
    c.links-links.ensures.value).1 in
    let same = ap g.R.Rows.content (c.links-links.ensures.same ∙ c.loop.invariant.same) in
    let falls = lower (gap a) same c.head_at.ensures.head in
    let node = inside (reach (gap a) same c.head_at.ensures.head) c.in-Some.is in (
      omega (arith, depth_is c.in-Some.is, falls, c.decreases),
      (
        search rules,
        (
          c.requires.stands.0,
          node.chain,
          part_still (ap g.R.Rows.content c.head_at.ensures.same ∙ same) (node_stands node),
        ),
      ),
    )

pub loop-preserved : goal.loop-preserved
loop-preserved g t c =
    let cell = λ (s : SomePart (g.R.Rows.content c.args.rows.now) c.args.node.now).
    at_cell (c.loop.invariant.onward s) c.loop-test.true
    (ap g.R.Rows.content c.loop.invariant.same)
    (links_at (g.R.Rows.content c.loop.rows) (c.loop.link - 1) c.links-links.result
    c.links-links.ensures.value).1 in
    let same = ap g.R.Rows.content (c.links-links.ensures.same ∙ c.loop.invariant.same) in
    record {
      same = elim c.match-head_at.branch [
        | in-Some w ↦ w.rows-is ∙ w.len_of_node-len.ensures.same ∙ c.head_at.ensures.same
            ∙ c.links-links.ensures.same ∙ c.loop.invariant.same
        | in_default w ↦ w.rows-is ∙ c.head_at.ensures.same ∙ c.links-links.ensures.same
            ∙ c.loop.invariant.same
      ];
      onward = λ s.
          let a = cell s in
          let there = reach (gap a) same c.head_at.ensures.head in
          goes_on a c.match-head_at.len (λ few. elim c.match-head_at.branch [
            | in-Some w ↦
                let node = inside there w.in-Some.is in
                w.len-is
                ∙ added a (node_counts node (w.len_of_node-len.ensures.len s.0 node.chain
                (part_still (ap g.R.Rows.content c.head_at.ensures.same ∙ same)
                (node_stands node)))) few
            | in_default w ↦
                w.len-is ∙ none_added a (at_nothing there w.in_default.is)
          ]);
    }

-- ---- the tree in the last gap

pub head_at-requires-2 : goal.head_at-requires-2
head_at-requires-2 g t c =
    let a = at_end (c.loop.invariant.onward c.requires.stands) (omega (arith, c.loop-test.false)) in
    record {
      lies =
          (c.requires.stands.0, a.child, tail_lies a (ap g.R.Rows.content c.loop.invariant.same));
    }

pub len_of_node-requires : goal.len_of_node-requires
len_of_node-requires g t c κs within =
    let a = at_end (c.loop.invariant.onward c.requires.stands) (omega (arith, c.loop-test.false)) in
    let same = ap g.R.Rows.content c.loop.invariant.same in
    let falls = lower (last a) same c.head_at-2.ensures.head in
    let node = inside (reach (last a) same c.head_at-2.ensures.head) c.in-Some-head_at.is in (
      omega (arith, depth_is c.in-Some-head_at.is, falls, c.decreases),
      (
        search rules,
        (
          c.requires.stands.0,
          node.chain,
          part_still (ap g.R.Rows.content c.head_at-2.ensures.same ∙ same) (node_stands node),
        ),
      ),
    )

pub returns-in-Some-head_at-clause-len : goal.returns-in-Some-head_at-clause-len
returns-in-Some-head_at-clause-len g t c f p s few =
    let a = at_end (c.loop.invariant.onward (f, p, s)) (omega (arith, c.loop-test.false)) in
    let same = ap g.R.Rows.content c.loop.invariant.same in
    let node = inside (reach (last a) same c.head_at-2.ensures.head) c.in-Some-head_at.is in
    ends a
    (node_counts node (c.len_of_node.ensures.len f node.chain
    (part_still (ap g.R.Rows.content c.head_at-2.ensures.same ∙ same) (node_stands node))))
    few

pub returns-in-None-clause-len : goal.returns-in-None-clause-len
returns-in-None-clause-len g t c f p s few =
    let a = at_end (c.loop.invariant.onward (f, p, s)) (omega (arith, c.loop-test.false)) in
    let same = ap g.R.Rows.content c.loop.invariant.same in
    nothing_left a (at_nothing (reach (last a) same c.head_at-2.ensures.head) c.in-None.is) few
