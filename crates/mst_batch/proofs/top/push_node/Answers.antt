use Rattle.mst_batch.proofs.Names.{◌∙◌, ap, arith, on_ok_weaker, at_cell, at_end}
use Rattle.mst_read.proofs.Walk.{child_lies, tail_lies}
use Rattle.mst_batch.proofs.Heads.{top_there, next_some, next_there}
use Rattle.mst_batch.proofs.NodeItems.{begins, goes_on}
use Rattle.mst_batch.proofs.top.push_node.Goals as goal

pub head-head-requires : goal.head-head-requires
head-head-requires g c =
    let z = c.requires.lies in record { there = top_there z.1 z.2 c.requires.some }

pub loop-init : goal.loop-init
loop-init g c = record {
  same = c.head-head.ensures.same;
  onward = λ format p lies.
      begins format (g.R.Rows.content c.args.rows.now) c.args.link p lies c.requires.some
      c.head-head.result c.head-head.ensures.value c.args.items.now.items;
}

pub overflow_sub-next : goal.overflow_sub-next
overflow_sub-next g c =
    let z = c.requires.lies in
    next_some (c.loop.invariant.onward z.0 z.1 z.2) c.loop-test.true

pub entry-entry-requires : goal.entry-entry-requires
entry-entry-requires g c =
    let z = c.requires.lies in
    record {
      there = next_there (c.loop.invariant.onward z.0 z.1 z.2) c.loop-test.true
          (ap g.R.Rows.content c.loop.invariant.same);
    }

pub overflow_sub-next-in-loop : goal.overflow_sub-next-in-loop
overflow_sub-next-in-loop g c =
    let z = c.requires.lies in
    next_some (c.loop.invariant.onward z.0 z.1 z.2) c.loop-test.true

pub push_tree-requires : goal.push_tree-requires
push_tree-requires g c =
    let z = c.requires.lies in
    let a = at_cell (c.loop.invariant.onward z.0 z.1 z.2) c.loop-test.true
    (ap g.R.Rows.content c.loop.invariant.same) c.entry-entry.ensures.value in
    record {
      lies = (
        z.0,
        a.child,
        child_lies a
            (ap g.R.Rows.content (c.entry-entry.ensures.same ∙ c.loop.invariant.same)),
      );
    }

pub loop-preserved : goal.loop-preserved
loop-preserved g c =
    let still = c.entry-entry.ensures.same ∙ c.loop.invariant.same in
    record {
      same = c.push_tree.ensures.same ∙ still;
      onward = λ format p lies.
          let a = at_cell (c.loop.invariant.onward format p lies) c.loop-test.true
          (ap g.R.Rows.content c.loop.invariant.same) c.entry-entry.ensures.value in
          goes_on c.head-head.result.layer c.loop.items.items _ a c.push_tree.new.items.items
          c.push.new.self.items
          (c.in_ok-push_tree.ensures.items format a.child
          (child_lies a (ap g.R.Rows.content still))) c.in_ok-push.ensures.items;
    }

pub push_tree-requires-2 : goal.push_tree-requires-2
push_tree-requires-2 g c =
    let z = c.requires.lies in
    let a = at_end (c.loop.invariant.onward z.0 z.1 z.2)
    (omega (arith, c.loop-test.false, c.loop.auto.counter-end)) in
    record { lies = (z.0, a.child, tail_lies a (ap g.R.Rows.content c.loop.invariant.same)) }

pub returns-clause-items : goal.returns-clause-items
returns-clause-items g c =
    on_ok_weaker c.push_tree-2.result (λ added format p lies.
    let a = at_end (c.loop.invariant.onward format p lies)
    (omega (arith, c.loop-test.false, c.loop.auto.counter-end)) in
    added format a.child (tail_lies a (ap g.R.Rows.content c.loop.invariant.same)) ∙ a.holds)
    c.push_tree-2.ensures.items
