use Rattle.mst_batch.proofs.Names.{◌≡◌, ◌+◌, ◌-◌, ◌<◌, List, length, map, take, drop, Bor, Some, IsSome, sym, ◌∙◌, ap, subst, arith, rules, nat_tests, map-append, IfOk-weaker, Edit, batched, pairs, Content, part_at, keyed_links, bare_links, entry_pair, tree_of, height_at, height_read, listed, plan_beside, AreKnown, AreThere, all_known, known_of, known_of_entry, known_of_node, plan_of, plan_of_node, planned_entry, Updates}
use Rattle.std.specs.List.{slice_range}
use Rattle.mst_batch.proofs.Builds.{IsToShare, Shared}
use Rattle.mst_batch.proofs.KnownShapes.{all_there, known_both}
use Rattle.mst_batch.proofs.Openings.{head_there}
use Rattle.mst_batch.proofs.Ranges.{three_parts, parts_rise, rest_is, rest_fits}
use Rattle.mst_batch.proofs.Updates.{entries_made, node_made, made_mst}
use Rattle.mst_batch.proofs.UpdateSteps.{Updating, PlansUpdated, KnowsUpdated, known_push, part_stays, some_link, begun, entry_there, at_entry, at_last, update_node}
use Rattle.mst_batch.proofs.updating.+update.Goals as goal

-- ---- no edit falls into the tree

pub updated-returns-then-is_empty-clause-plan : goal.updated-returns-then-is_empty-clause-plan
updated-returns-then-is_empty-clause-plan g t c m u =
    part_stays c.args.format (g.R.Rows.content c.args.rows.now) c.args.root.now m c.args.link
    c.args.edits.now u (grind (arith, nat_tests, c.is_empty.ensures, c.if-is_empty.true))

-- ---- a node

pub updated-update_node-requires : goal.updated-update_node-requires
updated-update_node-requires g t c κs within =
    let some : 0 < length c.args.edits.now =
    grind (arith, nat_tests, c.is_empty.ensures, c.if-is_empty.false) in (
      omega (arith, c.decreases),
      (
        search rules,
        (
          search rules,
          (c.requires.updates, (c.requires.rising, some)),
        ),
      ),
    )

pub update_node-overflow_sub-link : goal.update_node-overflow_sub-link
update_node-overflow_sub-link g t c =
    let u = c.requires.updates in
    let some = c.requires.some in
    omega (
      arith,
      some_link c.args.format (g.R.Rows.content c.args.rows.now) c.args.root.now u.0 c.args.link
          c.args.edits.now u.1 some,
    )

pub update_node-head-head-requires : goal.update_node-head-head-requires
update_node-head-head-requires g t c =
    let u = c.requires.updates in
    let some = c.requires.some in
    record {
      there = head_there c.args.format (g.R.Rows.content c.args.rows.now)
          u.1.stands.tree.placed c.args.link u.1.part
          (some_link c.args.format (g.R.Rows.content c.args.rows.now) c.args.root.now u.0
          c.args.link c.args.edits.now u.1 some);
    }

pub update_node-loop-init : goal.update_node-loop-init
update_node-loop-init g t c =
    let some = c.requires.some in
    record {
      same = c.head-head.ensures.same;
      room = omega arith;
      updating = λ m u. rw (c.in_ok-entries.ensures.items)
          (begun c.args.format (g.R.Rows.content c.args.rows.now) c.args.root.now m c.args.link
          (listed c.args.edits.now) u c.requires.rising
          (some_link c.args.format (g.R.Rows.content c.args.rows.now) c.args.root.now m
          c.args.link c.args.edits.now u some) c.head-head.result c.head-head.ensures.value);
      known = λ m u. rw (c.in_ok-entries.ensures.items) tt;
    }

-- ---- the next entry

pub update_node-overflow_sub-row : goal.update_node-overflow_sub-row
update_node-overflow_sub-row g t c =
    let u = c.requires.updates in
    omega (
      arith,
      (entry_there _ _ _ _ _ _ _ _ _ _ _ (c.loop.invariant.updating u.0 u.1)
          c.loop-test.true).1,
    )

pub update_node-links-links-requires : goal.update_node-links-links-requires
update_node-links-links-requires g t c =
    let u = c.requires.updates in
    record {
      there =
          subst (λ (x : Content). IsSome (part_at keyed_links x (c.loop.next - 1)))
          (sym (ap g.R.Rows.content c.loop.invariant.same))
          (entry_there _ _ _ _ _ _ _ _ _ _ _ (c.loop.invariant.updating u.0 u.1)
          c.loop-test.true).0;
    }

pub update_node-range_of-start-requires : goal.update_node-range_of-start-requires
update_node-range_of-start-requires g t c =
    let u = c.requires.updates in
    record { rising = (c.loop.invariant.updating u.0 u.1).rising }

pub update_node-updated-requires : goal.update_node-updated-requires
update_node-updated-requires g t c κs within =
    let u = c.requires.updates in
    let links = subst (λ (x : Content). part_at bare_links x (c.loop.next - 1)
    ≡ Some c.links-links.result) (ap g.R.Rows.content c.loop.invariant.same)
    c.links-links.ensures.value in
    let pair = subst (λ (x : Content). part_at entry_pair x (c.loop.next - 1)
    ≡ Some c.pair-key.result)
    (ap g.R.Rows.content (c.links-links.ensures.same ∙ c.loop.invariant.same))
    c.pair-key.ensures.value in
    let at = at_entry _ _ _ _ _ _ _ _ _ _ _ (c.loop.invariant.updating u.0 u.1) c.args.link
    u.1.part c.loop-test.true c.links-links.result links c.pair-key.result pair in
    let content = ap g.R.Rows.content
    (c.pair-key.ensures.same ∙ c.links-links.ensures.same ∙ c.loop.invariant.same) in
    let parts = three_parts c.loop.left.now c.range_of-start.result.0 c.range_of-start.result.1
    c.range_of-start.ensures.order in
    let child = subst (λ (x : Content). Updates c.args.format x c.args.root.now u.0
    c.links-links.result.child (listed (take c.range_of-start.result.0 c.loop.left.now)))
    (sym content) (record {
      stands = u.1.stands;
      part = at.child;
      each = at.below (listed (take c.range_of-start.result.0 c.loop.left.now))
          (listed (slice_range c.loop.left.now c.range_of-start.result.0
          c.range_of-start.result.1))
          (listed (drop c.range_of-start.result.1 c.loop.left.now)) parts
          c.range_of-start.ensures.before;
    }) in
    let falls = subst (λ (x : Content). height_at x c.links-links.result.child
    < c.head-head.result.layer + 1) (sym content) at.falls in
    let some = c.requires.some in
    let read = height_read (g.R.Rows.content c.args.rows.now) c.args.link c.head-head.result
    (some_link c.args.format (g.R.Rows.content c.args.rows.now) c.args.root.now u.0 c.args.link
    c.args.edits.now u.1 some) c.head-head.ensures.value in (
      omega (arith, c.decreases, falls, read),
      (
        search rules,
        (
          search rules,
          (
            (u.0, child),
            (parts_rise c.loop.left.now c.range_of-start.result.0 c.range_of-start.result.1
                c.range_of-start.ensures.order (c.loop.invariant.updating u.0 u.1).rising).0,
          ),
        ),
      ),
    )

pub update_node-updated_entry-requires : goal.update_node-updated_entry-requires
update_node-updated_entry-requires g t c =
    let u = c.requires.updates in
    record {
      rising = (parts_rise c.loop.left.now c.range_of-start.result.0 c.range_of-start.result.1
          c.range_of-start.ensures.order (c.loop.invariant.updating u.0 u.1).rising).1;
    }

pub update_node-loop-preserved : goal.update_node-loop-preserved
update_node-loop-preserved g t c =
    let lo = listed (take c.range_of-start.result.0 c.loop.left.now) in
    let own = listed (slice_range c.loop.left.now c.range_of-start.result.0
    c.range_of-start.result.1) in
    let hi = listed (drop c.range_of-start.result.1 c.loop.left.now) in
    let links = subst (λ (x : Content). part_at bare_links x (c.loop.next - 1)
    ≡ Some c.links-links.result) (ap g.R.Rows.content c.loop.invariant.same)
    c.links-links.ensures.value in
    let pair = subst (λ (x : Content). part_at entry_pair x (c.loop.next - 1)
    ≡ Some c.pair-key.result)
    (ap g.R.Rows.content (c.links-links.ensures.same ∙ c.loop.invariant.same))
    c.pair-key.ensures.value in
    let content = ap g.R.Rows.content
    (c.pair-key.ensures.same ∙ c.links-links.ensures.same ∙ c.loop.invariant.same) in
    let parts = three_parts c.loop.left.now c.range_of-start.result.0 c.range_of-start.result.1
    c.range_of-start.ensures.order in
    let plans = subst (λ (x : Content). PlansUpdated c.args.format x c.args.root.now
    c.links-links.result.child (listed (take c.range_of-start.result.0 c.loop.left.now))
    (plan_of c.in_ok-child.child)) content c.in_ok-child.ensures.plan in
    let knows = subst (λ (x : Content). KnowsUpdated c.args.format x c.args.root.now
    c.links-links.result.child (listed (take c.range_of-start.result.0 c.loop.left.now))
    (known_of c.in_ok-child.child)) content c.in_ok-child.ensures.known in
    record {
      same = c.in_ok-child.ensures.same ∙ c.pair-key.ensures.same ∙ c.links-links.ensures.same
          ∙ c.loop.invariant.same;
      room = rest_fits c.loop.left.now c.range_of-start.result.1 (length c.args.edits.now)
          c.loop.invariant.room;
      updating = λ m u.
          let at = at_entry _ _ _ _ _ _ _ _ _ _ _ (c.loop.invariant.updating m u) c.args.link
          u.part c.loop-test.true c.links-links.result links c.pair-key.result pair in
          subst (λ (z : List (Bor Edit)). Updating c.args.format
          (g.R.Rows.content c.args.rows.now) u.stands.tree.placed c.head-head.result.layer
          (map planned_entry c.push.new.self.items)
          (batched (pairs (tree_of c.args.format u.part.placed)) (listed c.args.edits.now))
          (listed z) c.head-head.result.tail c.links-links.result.next (c.loop.counter + 1)
          c.head-head.result.count) (sym (rest_is c.loop.left.now c.range_of-start.result.1))
          (rw (c.in_ok-push.ensures.items, map-append)
          (at.after lo own hi parts c.range_of-start.ensures.before c.range_of-start.ensures.own
          c.range_of-start.ensures.after (planned_entry c.updated_entry.result)
          (c.updated_entry.ensures.child
          ∙ plans m (record {
            stands = u.stands;
            part = at.child;
            each = at.below lo own hi parts c.range_of-start.ensures.before;
          }))
          c.updated_entry.ensures.key
          (c.updated_entry.ensures.pair at.some_map (at.here lo own hi parts)
          c.range_of-start.ensures.own)));
      known = λ m u.
          let at = at_entry _ _ _ _ _ _ _ _ _ _ _ (c.loop.invariant.updating m u) c.args.link
          u.part c.loop-test.true c.links-links.result links c.pair-key.result pair in
          rw (c.in_ok-push.ensures.items)
          (known_push c.args.format u.stands.tree.placed c.loop.entries.items
          c.updated_entry.result (c.loop.invariant.known m u)
          (c.updated_entry.ensures.known c.args.format u.stands.tree.placed at.told
          (knows m (record {
            stands = u.stands;
            part = at.child;
            each = at.below lo own hi parts c.range_of-start.ensures.before;
          }))));
    }

-- ---- the last gap

pub update_node-updated-requires-2 : goal.update_node-updated-requires-2
update_node-updated-requires-2 g t c κs within =
    let u = c.requires.updates in
    let at = at_last _ _ _ _ _ _ _ _ _ _ _ (c.loop.invariant.updating u.0 u.1) c.args.link
    u.1.part (omega (arith, c.loop-test.false, c.loop.auto.counter-end)) in
    let content = ap g.R.Rows.content c.loop.invariant.same in
    let child = subst (λ (x : Content). Updates c.args.format x c.args.root.now u.0
    c.head-head.result.tail (listed c.loop.left.now)) (sym content)
    (record { stands = u.1.stands; part = at.child; each = at.updates }) in
    let falls = subst (λ (x : Content). height_at x c.head-head.result.tail
    < c.head-head.result.layer + 1) (sym content) at.falls in
    let some = c.requires.some in
    let read = height_read (g.R.Rows.content c.args.rows.now) c.args.link c.head-head.result
    (some_link c.args.format (g.R.Rows.content c.args.rows.now) c.args.root.now u.0 c.args.link
    c.args.edits.now u.1 some) c.head-head.ensures.value in (
      omega (arith, c.decreases, falls, read),
      (
        search rules,
        (
          search rules,
          ((u.0, child), (c.loop.invariant.updating u.0 u.1).rising),
        ),
      ),
    )

-- ---- the node, which may stand already

pub update_node-shared-requires-clause-node : goal.update_node-shared-requires-clause-node
update_node-shared-requires-clause-node g t c =
    let u = c.requires.updates in
    let at = at_last _ _ _ _ _ _ _ _ _ _ _ (c.loop.invariant.updating u.0 u.1) c.args.link
    u.1.part (omega (arith, c.loop-test.false, c.loop.auto.counter-end)) in
    let some = c.head-head.ensures.limits.1 in
    let all = batched (pairs (tree_of c.args.format u.1.part.placed)) (listed c.args.edits.now) in
    let plans = subst (λ (x : Content). PlansUpdated c.args.format x c.args.root.now
    c.head-head.result.tail (listed c.loop.left.now) (plan_of c.in_ok-tail.tail))
    (ap g.R.Rows.content c.loop.invariant.same) c.in_ok-tail.ensures.plan in
    subst (λ (x : Content). IsToShare x c.args.root.now (plan_of_node c.node_of.result))
    (sym (ap g.R.Rows.content (c.updated-2.ensures.same ∙ c.loop.invariant.same))) (
      c.args.format,
      u.0,
      u.1.stands,
      c.head-head.result.layer,
      entries_made c.args.format c.head-head.result.layer all,
      made_mst c.args.format c.head-head.result.layer all at.low (at.has some),
      update_node (plan_of_node c.node_of.result) _ _ _ _ c.node_of.ensures.plan
          (at.entries (plan_of c.in_ok-tail.tail)
          (plans u.0 (record { stands = u.1.stands; part = at.child; each = at.updates }))),
    )

pub update_node-shared-requires-clause-known : goal.update_node-shared-requires-clause-known
update_node-shared-requires-clause-known g t c =
    let u = c.requires.updates in
    let at = at_last _ _ _ _ _ _ _ _ _ _ _ (c.loop.invariant.updating u.0 u.1) c.args.link
    u.1.part (omega (arith, c.loop-test.false, c.loop.auto.counter-end)) in
    let knows = subst (λ (x : Content). KnowsUpdated c.args.format x c.args.root.now
    c.head-head.result.tail (listed c.loop.left.now) (known_of c.in_ok-tail.tail))
    (ap g.R.Rows.content c.loop.invariant.same) c.in_ok-tail.ensures.known in
    subst (λ (x : Content). AreThere x (known_of_node c.node_of.result))
    (sym (ap g.R.Rows.content (c.updated-2.ensures.same ∙ c.loop.invariant.same)))
    (all_there c.args.format u.1.stands.tree.placed (g.R.Rows.content c.args.rows.now)
    (known_of_node c.node_of.result) u.1.stands.tree.rows
    (subst (AreKnown c.args.format u.1.stands.tree.placed) (sym c.node_of.ensures.known)
    (known_both c.args.format u.1.stands.tree.placed
    (all_known (map known_of_entry c.loop.entries.items)) (known_of c.in_ok-tail.tail)
    (c.loop.invariant.known u.0 u.1)
    (knows u.0 (record { stands = u.1.stands; part = at.child; each = at.updates })))))

pub update_node-returns-clause-plan : goal.update_node-returns-clause-plan
update_node-returns-clause-plan g t c =
    let some = c.head-head.ensures.limits.1 in
    let plans = subst (λ (x : Content). PlansUpdated c.args.format x c.args.root.now
    c.head-head.result.tail (listed c.loop.left.now) (plan_of c.in_ok-tail.tail))
    (ap g.R.Rows.content c.loop.invariant.same) c.in_ok-tail.ensures.plan in
    IfOk-weaker c.shared.result _ _ (λ plan shared m u.
    let at = at_last _ _ _ _ _ _ _ _ _ _ _ (c.loop.invariant.updating m u) c.args.link
    u.part (omega (arith, c.loop-test.false, c.loop.auto.counter-end)) in
    let all = batched (pairs (tree_of c.args.format u.part.placed)) (listed c.args.edits.now) in
    subst (λ (x : Content). Shared x c.args.root.now (plan_of_node c.node_of.result)
    (plan_of plan)) (ap g.R.Rows.content (c.updated-2.ensures.same ∙ c.loop.invariant.same))
    shared c.args.format m u.stands c.head-head.result.layer
    (entries_made c.args.format c.head-head.result.layer all)
    (made_mst c.args.format c.head-head.result.layer all at.low (at.has some))
    (update_node (plan_of_node c.node_of.result) _ _ _ _ c.node_of.ensures.plan
    (at.entries (plan_of c.in_ok-tail.tail)
    (plans m (record { stands = u.stands; part = at.child; each = at.updates }))))
    ∙ ap (plan_beside c.args.format u.stands.tree.placed)
    (sym (node_made c.args.format c.head-head.result.layer all at.low (at.has some))))
    c.shared.ensures.plan

pub update_node-returns-clause-known : goal.update_node-returns-clause-known
update_node-returns-clause-known g t c =
    let knows = subst (λ (x : Content). KnowsUpdated c.args.format x c.args.root.now
    c.head-head.result.tail (listed c.loop.left.now) (known_of c.in_ok-tail.tail))
    (ap g.R.Rows.content c.loop.invariant.same) c.in_ok-tail.ensures.known in
    IfOk-weaker c.shared.result _ _ (λ plan shared m u.
    let at = at_last _ _ _ _ _ _ _ _ _ _ _ (c.loop.invariant.updating m u) c.args.link
    u.part (omega (arith, c.loop-test.false, c.loop.auto.counter-end)) in
    shared c.args.format u.stands.tree.placed
    (subst (AreKnown c.args.format u.stands.tree.placed) (sym c.node_of.ensures.known)
    (known_both c.args.format u.stands.tree.placed
    (all_known (map known_of_entry c.loop.entries.items)) (known_of c.in_ok-tail.tail)
    (c.loop.invariant.known m u)
    (knows m (record { stands = u.stands; part = at.child; each = at.updates })))))
    c.shared.ensures.known
