use Rattle.mst_batch.proofs.Names.{List, ◌≡◌, ◌≤◌, ◌<◌, ◌+◌, ℕ, Option, Some, IfSome, length, map, false, true, sym, ◌∙◌, ap, subst, arith, rules, slice_range, AllByRecursion, list_any, map-append, IfOk-weaker, Format, contains-all, Content, Placed, IsItem, height_of, AreThere, all_known, known_of, known_of_entry, known_of_node, plan_of, plan_of_node, planned_entry, IsStanding, is_tree, is_pair, Item, Origin}
use Rattle.std.proofs.lemmas.Option.{MatchOption-at_none}
use Rattle.mst_batch.specs.Items.{IsPair}
use Rattle.mst_batch.proofs.KnownShapes.{all_there}
use Rattle.mst_batch.proofs.Tops.{all_upto, some_pair}
use Rattle.mst_batch.proofs.Builds.{AreBeside, Plans, IsToShare, Shared, standing, stands_alone, some_height, KnownBeside, opened_known, part_known, entry_known, node_known, opened_beside, opened_upto, opened_has, opened_plans, part_beside, ends, joins, stays_low, to_share, shares}
use Rattle.mst_batch.proofs.NodePlans.{gap_none_low}
use Rattle.mst_batch.proofs.building.+build.Goals as goal
use Rattle.mst_batch.proofs.building.+build.Goals.{build_node-in-Some+in_ok-child+in_ok-push, build_node-in_default}

-- what is found of the pair of an item
abbrev Found : Content → ℕ → Item → List ℕ × List ℕ × Origin → Type 0
Found content l x found = (format : Format) (whole : Placed) → IsStanding format content whole
    → IsItem format whole x → IsPair format whole l x (found.0, found.1) found.2

found_of : (content : Content) (l : ℕ) (x : Item) (o : Option (List ℕ × List ℕ × Origin))
    (found : List ℕ × List ℕ × Origin) → o ≡ Some found → IfSome o (Found content l x)
    → Found content l x found
found_of content l x o found is told = subst (λ y. IfSome y (Found content l x)) is told

pub build-returns-in-Some-clause-plan : goal.build-returns-in-Some-clause-plan
build-returns-in-Some-clause-plan g t c =
    stands_alone (g.R.Rows.content c.args.rows.now) c.args.root.now c.args.items.now c.in-Some.link
    (sym c.lone_tree.ensures.link ∙ c.in-Some.is)

pub build-opened_at-requires : goal.build-opened_at-requires
build-opened_at-requires g t c =
    let z = c.requires.items in
    record {
      items = (
        z.0,
        z.2.tree.placed,
        standing (g.R.Rows.content c.args.rows.now) c.args.root.now z.0 z.1 z.2,
        z.3.each,
      );
    }

pub build-build_node-requires : goal.build-build_node-requires
build-build_node-requires g t c κs within =
    let xs = c.args.items.now in
    let content = g.R.Rows.content c.args.rows.now in
    let top = some_height c.args.items.now (sym c.lone_tree.ensures.link ∙ c.in_default.is)
    c.top_of-top.result.layer c.top_of-top.ensures.top.greatest in
    let low : height_of c.args.items.now ≤ c.top_of-top.result.layer + 1 = omega (arith, top) in
    let is = λ (f : Format) (w : Placed)
    (s : IsStanding f (g.R.Rows.content c.args.rows.now) w)
    (e : AllByRecursion (IsItem f w) c.args.items.now).
    c.as_slice-inner.ensures.value ∙ c.in_ok-opened.ensures.items f w s e in
    let some : list_any (is_tree c.top_of-top.result.layer) c.args.items.now ≡ true =
    sym c.top_of-top.ensures.top.tree ∙ c.if-top.true in (
      omega (arith, c.decreases, top),
      (
        search rules,
        (
          search rules,
          (
            subst (λ (x : Content). AreBeside x c.args.root.now c.as_slice-inner.result.now)
                (sym (ap g.R.Rows.content c.opened_at.ensures.same))
                (opened_beside content c.args.root.now c.top_of-top.result.layer xs
                c.as_slice-inner.result.now low is c.requires.items),
            (
              opened_upto content c.args.root.now c.top_of-top.result.layer xs
                  c.as_slice-inner.result.now
                  low is c.requires.items,
              opened_has content c.args.root.now c.top_of-top.result.layer xs
                  c.as_slice-inner.result.now
                  low is c.requires.items some,
            ),
          ),
        ),
      ),
    )

pub build-build_node-requires-else-top :
    goal.build-build_node-requires-else-top
build-build_node-requires-else-top g t c κs within =
    let l = c.top_of-top.result.layer in
    let xs = c.args.items.now in
    let top = some_height c.args.items.now (sym c.lone_tree.ensures.link ∙ c.in_default.is)
    c.top_of-top.result.layer c.top_of-top.ensures.top.greatest in
    let no_tree : list_any (is_tree c.top_of-top.result.layer) c.args.items.now ≡ false =
    sym c.top_of-top.ensures.top.tree ∙ c.if-top.false in (
      omega (arith, c.decreases, top),
      (
        search rules,
        (
          search rules,
          (
            c.requires.items,
            (
              all_upto c.top_of-top.result.layer c.args.items.now (omega (arith, top)) no_tree,
              some_pair c.top_of-top.result.layer c.args.items.now top no_tree,
            ),
          ),
        ),
      ),
    )

pub build-returns-in_ok-opened-clause-plan : goal.build-returns-in_ok-opened-clause-plan
build-returns-in_ok-opened-clause-plan g t c =
    let content = g.R.Rows.content c.args.rows.now in
    let top = some_height c.args.items.now (sym c.lone_tree.ensures.link ∙ c.in_default.is)
    c.top_of-top.result.layer c.top_of-top.ensures.top.greatest in
    let low : height_of c.args.items.now ≤ c.top_of-top.result.layer + 1 = omega (arith, top) in
    IfOk-weaker c.build_node.result _ _ (λ plan plans.
    opened_plans content c.args.root.now c.top_of-top.result.layer c.args.items.now
    c.as_slice-inner.result.now low
    (λ f w s e. c.as_slice-inner.ensures.value ∙ c.in_ok-opened.ensures.items f w s e)
    (plan_of plan)
    (subst (λ (x : Content). Plans x c.args.root.now c.as_slice-inner.result.now (plan_of plan))
    (ap g.R.Rows.content c.opened_at.ensures.same) plans)) c.build_node.ensures.plan

pub build_node-build-requires : goal.build_node-build-requires
build_node-build-requires g t c κs within = (
  omega (arith, c.decreases, c.loop-i.invariant.low),
  (
    search rules,
    (
      search rules,
      subst (λ (x : Content). AreBeside x c.args.root.now
          (slice_range c.args.items.now c.loop-i.start c.loop-i.i))
          (sym (ap g.R.Rows.content (c.pair_of.ensures.same ∙ c.loop-i.invariant.same)))
          (part_beside (g.R.Rows.content c.args.rows.now) c.args.root.now c.args.items.now
          c.loop-i.start c.loop-i.i c.requires.items),
    ),
  ),
)

pub build_node-pair_of-requires : goal.build_node-pair_of-requires
build_node-pair_of-requires g t c =
    let z = c.requires.items in
    record {
      item = (
        z.0,
        z.2.tree.placed,
        subst (λ (x : Content). IsStanding z.0 x z.2.tree.placed)
            (sym (ap g.R.Rows.content c.loop-i.invariant.same))
            (standing (g.R.Rows.content c.args.rows.now) c.args.root.now z.0 z.1 z.2),
        contains-all (IsItem z.0 z.2.tree.placed) c.args.items.now c.index-items-i.result
            z.3.each (c.loop-i.i, omega arith, sym c.index-items-i.is),
      );
    }

pub build_node-loop-i-preserved : goal.build_node-loop-i-preserved
build_node-loop-i-preserved g t c =
    let xs = c.args.items.now in
    let content = g.R.Rows.content c.args.rows.now in
    let x = c.index-items-i.result in
    let within : c.loop-i.i < length c.args.items.now = omega arith in
    elim c.match-pair_of.branch [
      | build_node-in-Some+in_ok-child+in_ok-push w ↦
          let gap = slice_range xs c.loop-i.start c.loop-i.i in
          let found : Found (g.R.Rows.content c.args.rows.now) c.args.layer c.index-items-i.result
          (w.in-Some.key, w.in-Some.value, w.in-Some.origin) =
          found_of (g.R.Rows.content c.args.rows.now) c.args.layer c.index-items-i.result
          c.pair_of.result (w.in-Some.key, w.in-Some.value, w.in-Some.origin) w.in-Some.is
          (subst (λ (z : Content). IfSome c.pair_of.result
          (Found z c.args.layer c.index-items-i.result))
          (ap g.R.Rows.content c.loop-i.invariant.same) c.pair_of.ensures.found) in
          let child = plan_of w.in_ok-child.child in
          let plans = subst (λ (z : Content). Plans z c.args.root.now
          (slice_range c.args.items.now c.loop-i.start c.loop-i.i) (plan_of w.in_ok-child.child))
          (ap g.R.Rows.content (c.pair_of.ensures.same ∙ c.loop-i.invariant.same))
          w.in_ok-child.ensures.plan in
          record {
            same = w.rows-is ∙ w.build.ensures.same ∙ c.pair_of.ensures.same
                ∙ c.loop-i.invariant.same;
            gap = omega (arith, w.start-is);
            low = subst (λ (n : ℕ). height_of (slice_range xs n (c.loop-i.i + 1)) ≤ c.args.layer)
                (sym w.start-is) (gap_none_low xs (c.loop-i.i + 1) c.args.layer);
            entries = rw (w.start-is, w.entries-is, w.in_ok-push.ensures.items, map-append)
                (ends content c.args.root.now c.args.layer xs c.requires.layers c.loop-i.start
                c.loop-i.i (map planned_entry c.loop-i.entries.items)
                c.loop-i.invariant.entries x within c.index-items-i.is
                (w.in-Some.key, w.in-Some.value)
                (λ f whole s each. let p = found f whole s each in (p.0, p.1)) child plans
                (planned_entry w.entry_of.result) w.entry_of.ensures.entry);
            known = rw (w.entries-is, w.in_ok-push.ensures.items)
                (entry_known content c.args.root.now xs c.loop-i.i x within c.index-items-i.is
                c.loop-i.entries.items w.entry_of.result (known_of w.in_ok-child.child)
                w.in-Some.origin (w.in-Some.key, w.in-Some.value) w.entry_of.ensures.known
                c.loop-i.invariant.known
                (part_known content c.args.root.now xs c.loop-i.start c.loop-i.i
                (known_of w.in_ok-child.child)
                (subst (λ (z : Content). KnownBeside z c.args.root.now
                (slice_range c.args.items.now c.loop-i.start c.loop-i.i)
                (known_of w.in_ok-child.child))
                (ap g.R.Rows.content (c.pair_of.ensures.same ∙ c.loop-i.invariant.same))
                w.in_ok-child.ensures.known))
                (λ f whole s each. (found f whole s each).2));
          }
      | build_node-in_default w ↦
          let is : is_pair c.args.layer c.index-items-i.result ≡ false =
          MatchOption-at_none _ _ w.in_default.is c.pair_of.ensures.pair in
          record {
            same = w.rows-is ∙ c.pair_of.ensures.same ∙ c.loop-i.invariant.same;
            gap = omega (arith, w.start-is, c.loop-i.invariant.gap);
            low = subst (λ (n : ℕ). height_of (slice_range xs n (c.loop-i.i + 1)) ≤ c.args.layer)
                (sym w.start-is) (stays_low content c.args.root.now c.args.layer xs
                c.requires.layers c.loop-i.start c.loop-i.i
                (map planned_entry c.loop-i.entries.items) c.loop-i.invariant.entries
                c.loop-i.invariant.gap x within c.index-items-i.is is c.loop-i.invariant.low);
            entries = rw (w.start-is, w.entries-is)
                (joins content c.args.root.now c.args.layer xs c.requires.layers c.loop-i.start
                c.loop-i.i (map planned_entry c.loop-i.entries.items)
                c.loop-i.invariant.entries c.loop-i.invariant.gap x within c.index-items-i.is is);
            known = rw (w.entries-is) c.loop-i.invariant.known;
          }
    ]

pub build_node-build-requires-2 : goal.build_node-build-requires-2
build_node-build-requires-2 g t c κs within =
    let end : c.loop-i.i ≡ length c.args.items.now = omega (arith, c.loop-i-test.false) in
    let low = subst (λ (n : ℕ). height_of (slice_range c.args.items.now c.loop-i.start n)
    ≤ c.args.layer) end c.loop-i.invariant.low in (
      omega (arith, c.decreases, low),
      (
        search rules,
        (
          search rules,
          subst (λ (x : Content). AreBeside x c.args.root.now
              (slice_range c.args.items.now c.loop-i.start (length c.args.items.now)))
              (sym (ap g.R.Rows.content c.loop-i.invariant.same))
              (part_beside (g.R.Rows.content c.args.rows.now) c.args.root.now c.args.items.now
              c.loop-i.start (length c.args.items.now) c.requires.items),
        ),
      ),
    )

pub build_node-shared-requires-clause-node : goal.build_node-shared-requires-clause-node
build_node-shared-requires-clause-node g t c =
    let content = g.R.Rows.content c.args.rows.now in
    let plans = subst (λ (x : Content). Plans x c.args.root.now
    (slice_range c.args.items.now c.loop-i.start (length c.args.items.now))
    (plan_of c.in_ok-tail.tail)) (ap g.R.Rows.content c.loop-i.invariant.same)
    c.in_ok-tail.ensures.plan in
    subst (λ (x : Content). IsToShare x c.args.root.now (plan_of_node c.node_of.result))
    (sym (ap g.R.Rows.content (c.build-2.ensures.same ∙ c.loop-i.invariant.same)))
    (to_share content c.args.root.now c.args.layer c.args.items.now c.requires.layers
    c.loop-i.start c.loop-i.i (map planned_entry c.loop-i.entries.items)
    c.loop-i.invariant.entries c.requires.some (omega (arith, c.loop-i-test.false))
    (plan_of c.in_ok-tail.tail) (plan_of_node c.node_of.result) plans
    c.node_of.ensures.plan c.requires.items)

pub build_node-shared-requires-clause-known : goal.build_node-shared-requires-clause-known
build_node-shared-requires-clause-known g t c =
    let content = g.R.Rows.content c.args.rows.now in
    let z = c.requires.items in
    let tail = part_known content c.args.root.now c.args.items.now c.loop-i.start
    (length c.args.items.now) (known_of c.in_ok-tail.tail)
    (subst (λ (x : Content). KnownBeside x c.args.root.now
    (slice_range c.args.items.now c.loop-i.start (length c.args.items.now))
    (known_of c.in_ok-tail.tail)) (ap g.R.Rows.content c.loop-i.invariant.same)
    c.in_ok-tail.ensures.known) in
    let node = node_known content c.args.root.now c.args.items.now
    (known_of_node c.node_of.result) (all_known (map known_of_entry c.loop-i.entries.items))
    (known_of c.in_ok-tail.tail) c.node_of.ensures.known c.loop-i.invariant.known tail in
    subst (λ (x : Content). AreThere x (known_of_node c.node_of.result))
    (sym (ap g.R.Rows.content (c.build-2.ensures.same ∙ c.loop-i.invariant.same)))
    (all_there z.0 z.2.tree.placed content (known_of_node c.node_of.result) z.2.tree.rows
    (node z.0 z.1 z.2 z.3))

pub build_node-returns-clause-plan : goal.build_node-returns-clause-plan
build_node-returns-clause-plan g t c =
    let content = g.R.Rows.content c.args.rows.now in
    let plans = subst (λ (x : Content). Plans x c.args.root.now
    (slice_range c.args.items.now c.loop-i.start (length c.args.items.now))
    (plan_of c.in_ok-tail.tail)) (ap g.R.Rows.content c.loop-i.invariant.same)
    c.in_ok-tail.ensures.plan in
    IfOk-weaker c.shared.result _ _ (λ plan shared.
    shares content c.args.root.now c.args.layer c.args.items.now c.requires.layers
    c.loop-i.start c.loop-i.i (map planned_entry c.loop-i.entries.items)
    c.loop-i.invariant.entries c.requires.some (omega (arith, c.loop-i-test.false))
    (plan_of c.in_ok-tail.tail) (plan_of_node c.node_of.result) plans
    c.node_of.ensures.plan (plan_of plan)
    (subst (λ (x : Content). Shared x c.args.root.now (plan_of_node c.node_of.result)
    (plan_of plan)) (ap g.R.Rows.content (c.build-2.ensures.same ∙ c.loop-i.invariant.same))
    shared)) c.shared.ensures.plan

-- ---- what the plan names

pub build-returns-in-Some-clause-known : goal.build-returns-in-Some-clause-known
build-returns-in-Some-clause-known g t c = λ format m stands are. tt

pub build-returns-in_ok-opened-clause-known : goal.build-returns-in_ok-opened-clause-known
build-returns-in_ok-opened-clause-known g t c =
    let content = g.R.Rows.content c.args.rows.now in
    let top = some_height c.args.items.now (sym c.lone_tree.ensures.link ∙ c.in_default.is)
    c.top_of-top.result.layer c.top_of-top.ensures.top.greatest in
    let low : height_of c.args.items.now ≤ c.top_of-top.result.layer + 1 = omega (arith, top) in
    IfOk-weaker c.build_node.result _ _ (λ plan known.
    opened_known content c.args.root.now c.top_of-top.result.layer c.args.items.now
    c.as_slice-inner.result.now low
    (λ f w s e. c.as_slice-inner.ensures.value ∙ c.in_ok-opened.ensures.items f w s e)
    (known_of plan)
    (subst (λ (x : Content). KnownBeside x c.args.root.now c.as_slice-inner.result.now
    (known_of plan)) (ap g.R.Rows.content c.opened_at.ensures.same) known))
    c.build_node.ensures.known

pub build_node-returns-clause-known : goal.build_node-returns-clause-known
build_node-returns-clause-known g t c =
    let content = g.R.Rows.content c.args.rows.now in
    let tail = part_known content c.args.root.now c.args.items.now c.loop-i.start
    (length c.args.items.now) (known_of c.in_ok-tail.tail)
    (subst (λ (x : Content). KnownBeside x c.args.root.now
    (slice_range c.args.items.now c.loop-i.start (length c.args.items.now))
    (known_of c.in_ok-tail.tail)) (ap g.R.Rows.content c.loop-i.invariant.same)
    c.in_ok-tail.ensures.known) in
    let node = node_known content c.args.root.now c.args.items.now
    (known_of_node c.node_of.result) (all_known (map known_of_entry c.loop-i.entries.items))
    (known_of c.in_ok-tail.tail) c.node_of.ensures.known c.loop-i.invariant.known tail in
    IfOk-weaker c.shared.result _ _ (λ plan shared format m stands are.
    shared format stands.tree.placed (node format m stands are)) c.shared.ensures.known
