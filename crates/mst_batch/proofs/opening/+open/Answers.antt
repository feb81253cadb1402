use Rattle.mst_batch.proofs.Names.{◌≡◌, ℕ, ◌+◌, ◌-◌, ◌<◌, ◌≤◌, List, length, take, drop, Bor, Some, IsSome, sym, ◌∙◌, ap, subst, arith, rules, nat_tests, on_ok_weaker, Edit, batched, pairs, Content, part_at, keyed_links, Placed, tree_of, height_at, height_read, listed, PartOf, Adds, Item}
use Rattle.std.specs.List.{slice_range}
use Rattle.mst_batch.proofs.Openings.{head_there, part_lies, tree_stays}
use Rattle.mst_batch.proofs.OpeningSteps.{Opening, Opens, opens, both_ok, AtEntry, begun, entry_there, at_entry, at_last}
use Rattle.mst_batch.proofs.PairsFound.{pair_found}
use Rattle.mst_batch.proofs.Ranges.{three_parts, parts_rise, rest_is, rest_fits}
use Rattle.mst_batch.proofs.opening.+open.Given.{Over}
use Rattle.mst_batch.proofs.opening.+open.Goals.{After-entry-entry, After-loop}
use Rattle.mst_batch.proofs.opening.+open.Goals as goal

pub head-head-requires : goal.head-head-requires
head-head-requires g t c =
    let part = c.requires.part in
    record {
      there = head_there c.args.format (g.R.Rows.content c.args.rows.now) part.0 c.args.link part.1
          (omega (arith, c.if-link-eq0.false));
    }

pub loop-init : goal.loop-init
loop-init g t c = record {
  same = c.head-head.ensures.same;
  room = omega arith;
  opening = λ whole part.
      begun c.args.format (g.R.Rows.content c.args.rows.now) whole c.args.link part
      (omega (arith, c.if-link-eq0.false)) c.head-head.result c.head-head.ensures.value
      c.args.items.now.items (listed c.args.edits.now) c.requires.rising;
}

-- ---- no edit falls into the tree, or there is no tree

pub push_tree-requires : goal.push_tree-requires
push_tree-requires g t c =
    let part = c.requires.part in
    record {
      lies = (
        c.args.format,
        part.1.placed,
        part_lies c.args.format (g.R.Rows.content c.args.rows.now) part.0 c.args.link part.1,
      );
    }

pub returns-then-is_empty-clause-items : goal.returns-then-is_empty-clause-items
returns-then-is_empty-clause-items g t c =
    let empty : length c.args.edits.now < 1 =
    grind (arith, nat_tests, c.is_empty.ensures, c.if-is_empty.true) in
    on_ok_weaker c.push_tree.result (λ added whole part.
    (tree_stays c.args.format (g.R.Rows.content c.args.rows.now) whole c.args.link part
    c.args.items.now.items c.push_tree.new.items.items c.args.edits.now empty
    (added c.args.format part.placed)).follow) c.push_tree.ensures.items

pub returns-then-is_empty-clause-each : goal.returns-then-is_empty-clause-each
returns-then-is_empty-clause-each g t c =
    let empty : length c.args.edits.now < 1 =
    grind (arith, nat_tests, c.is_empty.ensures, c.if-is_empty.true) in
    on_ok_weaker c.push_tree.result (λ added whole part.
    (tree_stays c.args.format (g.R.Rows.content c.args.rows.now) whole c.args.link part
    c.args.items.now.items c.push_tree.new.items.items c.args.edits.now empty
    (added c.args.format part.placed)).each) c.push_tree.ensures.items

pub returns-then-link-eq0-clause-each : goal.returns-then-link-eq0-clause-each
returns-then-link-eq0-clause-each g t c =
    on_ok_weaker c.push_puts.result (λ adds whole part. (adds whole).each)
    c.push_puts.ensures.adds

-- ---- the next entry

module _ (g : Over) (t : ℕ) (c : After-entry-entry g t) (whole : Placed)
    (part : PartOf c.args.format (g.R.Rows.content c.args.rows.now) whole c.args.link) where
  entry : AtEntry c.args.format (g.R.Rows.content c.args.rows.now) whole c.head-head.result.layer
      c.args.items.now.items c.loop.items.items
      (batched (pairs (tree_of c.args.format part.placed)) (listed c.args.edits.now))
      (listed c.loop.left.now) c.head-head.result.tail (c.loop.next - 1) c.loop.counter
      c.head-head.result.count c.entry-entry.result
  entry =
      at_entry _ _ _ _ _ _ _ _ _ _ _ _ (c.loop.invariant.opening whole part) c.args.link part
      c.loop-test.true c.entry-entry.result
      (subst (λ (x : Content). part_at keyed_links x (c.loop.next - 1) ≡ Some c.entry-entry.result)
      (ap g.R.Rows.content c.loop.invariant.same) c.entry-entry.ensures.value)

  same_rows : g.R.Rows.content c.entry-entry.new.self ≡ g.R.Rows.content c.args.rows.now
  same_rows = ap g.R.Rows.content (c.entry-entry.ensures.same ∙ c.loop.invariant.same)

pub open-requires : goal.open-requires
open-requires g t c κs within =
    let at = (goal.at.open-requires g t c).After-entry-entry in
    let part = c.requires.part in
    let here = entry g t at part.0 part.1 in
    let content = same_rows g t at part.0 part.1 in
    let child =
    subst (λ (x : Content). PartOf c.args.format x part.0 c.entry-entry.result.child)
    (sym content) here.child in
    let falls =
    subst (λ (x : Content). height_at x c.entry-entry.result.child < c.head-head.result.layer + 1)
    (sym content) here.falls in
    let read = height_read (g.R.Rows.content c.args.rows.now) c.args.link c.head-head.result
    (omega (arith, c.if-link-eq0.false)) c.head-head.ensures.value in (
      omega (arith, c.decreases, falls, read),
      (
        search rules,
        (
          search rules,
          (
            (part.0, child),
            (parts_rise c.loop.left.now c.range_of-start.result.0 c.range_of-start.result.1
                c.range_of-start.ensures.order (c.loop.invariant.opening part.0 part.1).rising).0,
          ),
        ),
      ),
    )

pub loop-preserved : goal.loop-preserved
loop-preserved g t c = record {
  same = c.in_ok-open.ensures.same ∙ c.entry-entry.ensures.same
      ∙ c.loop.invariant.same;
  room = rest_fits c.loop.left.now c.range_of-start.result.1 (length c.args.edits.now)
      c.loop.invariant.room;
  opening = λ whole part.
      let at = (goal.at.loop-preserved g t c).After-entry-entry in
      let here = entry g t at whole part in
      let content = same_rows g t at whole part in
      let child =
      subst (λ (x : Content). Opens c.args.format x c.entry-entry.result.child
      c.loop.items.items c.open.new.items.items (listed (take c.range_of-start.result.0
      c.loop.left.now))) content
      (opens c.args.format (g.R.Rows.content c.entry-entry.new.self) c.entry-entry.result.child
      c.loop.items.items c.open.new.items.items
      (listed (take c.range_of-start.result.0 c.loop.left.now))
      c.in_ok-open.ensures.items c.in_ok-open.ensures.each) in
      let own = c.in_ok-push_entry.ensures.adds c.args.format whole
      (c.entry-entry.result.key, here.value) here.key_is c.range_of-start.ensures.own here.told
      (pair_found c.args.format whole (g.R.Rows.content c.args.rows.now) part.rows
      (c.loop.next - 1) (c.entry-entry.result.key, here.value) here.told) in
      subst (λ (z : List (Bor Edit)). Opening c.args.format (g.R.Rows.content c.args.rows.now) whole
      c.head-head.result.layer c.args.items.now.items c.push_entry.new.items.items
      (batched (pairs (tree_of c.args.format part.placed)) (listed c.args.edits.now))
      (listed z) c.head-head.result.tail c.entry-entry.result.next (c.loop.counter + 1)
      c.head-head.result.count) (sym (rest_is c.loop.left.now c.range_of-start.result.1))
      (here.after c.open.new.items.items c.push_entry.new.items.items
      (listed (take c.range_of-start.result.0 c.loop.left.now))
      (listed (slice_range c.loop.left.now c.range_of-start.result.0 c.range_of-start.result.1))
      (listed (drop c.range_of-start.result.1 c.loop.left.now))
      (three_parts c.loop.left.now c.range_of-start.result.0 c.range_of-start.result.1
      c.range_of-start.ensures.order)
      c.range_of-start.ensures.before c.range_of-start.ensures.own c.range_of-start.ensures.after
      (child whole here.child) own);
}

-- ---- the last gap

module _ (g : Over) (t : ℕ) (c : After-loop g t)
    (all : c.head-head.result.count ≤ c.loop.counter) (whole : Placed)
    (part : PartOf c.args.format (g.R.Rows.content c.args.rows.now) whole c.args.link) where
  old_rows : g.R.Rows.content c.loop.rows ≡ g.R.Rows.content c.args.rows.now
  old_rows = ap g.R.Rows.content c.loop.invariant.same

  last : (p : PartOf c.args.format (g.R.Rows.content c.args.rows.now) whole c.head-head.result.tail)
      × (height_at (g.R.Rows.content c.args.rows.now) c.head-head.result.tail
      < c.head-head.result.layer + 1)
      × ((more : List Item)
      → Adds c.args.format whole c.loop.items.items more
      (batched (pairs (tree_of c.args.format p.placed)) (listed c.loop.left.now))
      → Adds c.args.format whole c.args.items.now.items more
      (batched (pairs (tree_of c.args.format part.placed)) (listed c.args.edits.now)))
  last = at_last _ _ _ _ _ _ _ _ _ _ _ _ (c.loop.invariant.opening whole part) c.args.link part
      (omega (arith, all, c.loop.auto.counter-end))

  added : (more : List Item)
      → Opens c.args.format (g.R.Rows.content c.loop.rows) c.head-head.result.tail
      c.loop.items.items more (listed c.loop.left.now)
      → Adds c.args.format whole c.args.items.now.items more
      (batched (pairs (tree_of c.args.format part.placed)) (listed c.args.edits.now))
  added more tail =
      let here =
      subst (λ (x : Content). Opens c.args.format x c.head-head.result.tail c.loop.items.items
      more (listed c.loop.left.now)) old_rows tail in
      last.2 more (here whole last.0)

pub open-requires-2 : goal.open-requires-2
open-requires-2 g t c κs within =
    let at = (goal.at.open-requires-2 g t c).After-loop in
    let part = c.requires.part in
    let same = old_rows g t at c.loop-test.false part.0 part.1 in
    let tail = last g t at c.loop-test.false part.0 part.1 in
    let falls =
    subst (λ (x : Content). height_at x c.head-head.result.tail < c.head-head.result.layer + 1)
    (sym same) tail.1 in
    let child =
    subst (λ (x : Content). PartOf c.args.format x part.0 c.head-head.result.tail) (sym same)
    tail.0 in
    let read = height_read (g.R.Rows.content c.args.rows.now) c.args.link c.head-head.result
    (omega (arith, c.if-link-eq0.false)) c.head-head.ensures.value in (
      omega (arith, c.decreases, falls, read),
      (
        search rules,
        (
          search rules,
          ((part.0, child), (c.loop.invariant.opening part.0 part.1).rising),
        ),
      ),
    )

pub returns-clause-items : goal.returns-clause-items
returns-clause-items g t c =
    both_ok c.open-2.result
    (λ follow each whole part.
    (added g t (goal.at.returns-clause-items g t c).After-loop c.loop-test.false whole part
    c.open-2.new.items.items
    (opens c.args.format (g.R.Rows.content c.loop.rows) c.head-head.result.tail
    c.loop.items.items c.open-2.new.items.items (listed c.loop.left.now) follow each)).follow)
    c.open-2.ensures.items c.open-2.ensures.each

pub returns-clause-each : goal.returns-clause-each
returns-clause-each g t c =
    both_ok c.open-2.result
    (λ follow each whole part.
    (added g t (goal.at.returns-clause-each g t c).After-loop c.loop-test.false whole part
    c.open-2.new.items.items
    (opens c.args.format (g.R.Rows.content c.loop.rows) c.head-head.result.tail
    c.loop.items.items c.open-2.new.items.items (listed c.loop.left.now) follow each)).each)
    c.open-2.ensures.items c.open-2.ensures.each

-- ---- what is read there

pub overflow_sub-next : goal.overflow_sub-next
overflow_sub-next g t c =
    let part = c.requires.part in
    omega (
      arith,
      (entry_there _ _ _ _ _ _ _ _ _ _ _ _ (c.loop.invariant.opening part.0 part.1)
          c.loop-test.true).2,
    )

pub overflow_sub-next-in-loop : goal.overflow_sub-next-in-loop
overflow_sub-next-in-loop g t c =
    let part = c.requires.part in
    omega (
      arith,
      (entry_there _ _ _ _ _ _ _ _ _ _ _ _ (c.loop.invariant.opening part.0 part.1)
          c.loop-test.true).2,
    )

pub entry-entry-requires : goal.entry-entry-requires
entry-entry-requires g t c =
    let part = c.requires.part in
    record {
      there =
          subst (λ (x : Content). IsSome (part_at keyed_links x (c.loop.next - 1)))
          (sym (ap g.R.Rows.content c.loop.invariant.same))
          (entry_there _ _ _ _ _ _ _ _ _ _ _ _ (c.loop.invariant.opening part.0 part.1)
          c.loop-test.true).0;
    }

pub range_of-start-requires : goal.range_of-start-requires
range_of-start-requires g t c =
    let part = c.requires.part in
    record { rising = (c.loop.invariant.opening part.0 part.1).rising }

pub push_entry-requires : goal.push_entry-requires
push_entry-requires g t c =
    let part = c.requires.part in
    record {
      rising = (parts_rise c.loop.left.now c.range_of-start.result.0 c.range_of-start.result.1
          c.range_of-start.ensures.order (c.loop.invariant.opening part.0 part.1).rising).1;
    }
