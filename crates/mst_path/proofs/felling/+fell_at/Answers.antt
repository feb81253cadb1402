use Rattle.mst_path.proofs.Names.{◌≡◌, ℕ, ◌+◌, ◌-◌, ◌<◌, [], Some, IsSome, sym, ◌∙◌, ap, subst, arith, rules, Content, part_at, State, keyed_links, used, ToFell, height_at, Moves}
use Rattle.mst_path.proofs.lemmas.steps.Felling.{Felling, AtEntry, started, all_open, entry_there, at_entry, at_last, height_read}
use Rattle.mst_path.proofs.felling.+fell_at.Given.{Over}
use Rattle.mst_path.proofs.felling.+fell_at.Goals.{After-kill-in-loop}
use Rattle.mst_path.proofs.felling.+fell_at.Goals as goal

some : (link : ℕ) → (link ≡ 0 → ⊥) → 0 < link
some link other = omega (arith, other)

pub loop-init : goal.loop-init
loop-init g t c = record {
  same = c.head-head.ensures.same;
  felling =
      λ z. subst (λ (s : State). Felling z.format used (g.R.Rows.content c.args.rows.now)
      c.args.desk.now s c.head-head.result.layer (used z.placed) c.head-head.result.tail
      c.head-head.result.first 0 c.head-head.result.count) (sym c.kill.ensures.dead)
      (started (g.R.Rows.content c.args.rows.now) c.args.desk.now c.args.link z
      (some c.args.link c.if-link-eq0.false) used (λ i l chain at. all_open i l chain)
      c.head-head.result c.head-head.ensures.value);
}

-- ---- the next entry

module _ (g : Over) (t : ℕ) (c : After-kill-in-loop g t)
    (z : ToFell (g.R.Rows.content c.args.rows.now) c.args.desk.now c.args.link) where
  entry : AtEntry z.format used (g.R.Rows.content c.args.rows.now) c.args.desk.now c.loop.desk
      c.head-head.result.layer (used z.placed) c.head-head.result.tail (c.loop.next - 1)
      c.loop.counter c.head-head.result.count c.entry-entry.result
  entry =
      at_entry _ _ _ _ _ _ _ _ _ _ _ (c.loop.invariant.felling z) (λ p r. omega arith)
      c.loop-test.true
      c.entry-entry.result
      (subst (λ (x : Content). part_at keyed_links x (c.loop.next - 1) ≡ Some c.entry-entry.result)
      (ap g.R.Rows.content c.loop.invariant.same) c.entry-entry.ensures.value)

  same_rows : g.R.Rows.content c.entry-entry.new.self ≡ g.R.Rows.content c.args.rows.now
  same_rows = ap g.R.Rows.content (c.entry-entry.ensures.same ∙ c.loop.invariant.same)

  child : ToFell (g.R.Rows.content c.entry-entry.new.self) c.kill-in-loop.new.self
      c.entry-entry.result.child
  child = subst (λ (x : Content). ToFell x c.kill-in-loop.new.self c.entry-entry.result.child)
      (sym same_rows)
      (subst (λ (s : State). ToFell (g.R.Rows.content c.args.rows.now) s c.entry-entry.result.child)
      (sym c.kill-in-loop.ensures.dead) entry.below)

pub overflow_sub-next : goal.overflow_sub-next
overflow_sub-next g t c =
    omega (
      arith,
      (entry_there _ _ _ _ _ _ _ _ _ _ _ (c.loop.invariant.felling c.requires.tree)
          c.loop-test.true).1,
    )

pub overflow_sub-next-in-loop : goal.overflow_sub-next-in-loop
overflow_sub-next-in-loop g t c =
    omega (
      arith,
      (entry_there _ _ _ _ _ _ _ _ _ _ _ (c.loop.invariant.felling c.requires.tree)
          c.loop-test.true).1,
    )

pub entry-entry-requires : goal.entry-entry-requires
entry-entry-requires g t c =
    record {
      there =
          subst (λ (x : Content). IsSome (part_at keyed_links x (c.loop.next - 1)))
          (sym (ap g.R.Rows.content c.loop.invariant.same))
          (entry_there _ _ _ _ _ _ _ _ _ _ _ (c.loop.invariant.felling c.requires.tree)
          c.loop-test.true).0;
    }

pub kill-requires-in-loop : goal.kill-requires-in-loop
kill-requires-in-loop g t c =
    record {
      born =
          (entry_there _ _ _ _ _ _ _ _ _ _ _ (c.loop.invariant.felling c.requires.tree)
          c.loop-test.true).2;
    }

pub fell_at-requires : goal.fell_at-requires
fell_at-requires g t c κs within =
    let at = (goal.at.fell_at-requires g t c).After-kill-in-loop in
    let z = c.requires.tree in
    let falls =
    subst (λ (x : Content). height_at x c.entry-entry.result.child < c.head-head.result.layer
    + 1) (sym (same_rows g t at z)) (entry g t at z).lower_down in
    let read = height_read (g.R.Rows.content c.args.rows.now) c.args.link c.head-head.result
    (some c.args.link c.if-link-eq0.false) c.head-head.ensures.value in
    (omega (arith, c.decreases, falls, read), (search rules, (search rules, child g t at z)))

pub loop-preserved : goal.loop-preserved
loop-preserved g t c = record {
  same = c.fell_at.ensures.same ∙ c.entry-entry.ensures.same ∙ c.loop.invariant.same;
  felling = λ z.
      let at = (goal.at.loop-preserved g t c).After-kill-in-loop in
      let here = entry g t at z in
      let content = same_rows g t at z in
      let dead = c.kill-in-loop.ensures.dead in
      let fells =
      subst (λ (x : Content). (y : ToFell x c.kill-in-loop.new.self c.entry-entry.result.child)
      → Moves c.kill-in-loop.new.self c.fell_at.new.desk [] (used y.placed)) content
      c.fell_at.ensures.fells in
      here.after c.fell_at.new.desk
      (subst (λ (s : State).
      (y : ToFell (g.R.Rows.content c.args.rows.now) s c.entry-entry.result.child)
      → Moves s c.fell_at.new.desk [] (used y.placed)) dead fells here.below);
}

-- ---- the last gap

pub fell_at-requires-2 : goal.fell_at-requires-2
fell_at-requires-2 g t c κs within =
    let z = c.requires.tree in
    let same = ap g.R.Rows.content c.loop.invariant.same in
    let last = at_last _ _ _ _ _ _ _ _ _ _ _ (c.loop.invariant.felling z)
    (omega (arith, c.loop-test.false, c.loop.auto.counter-end)) in
    let falls =
    subst (λ (x : Content). height_at x c.head-head.result.tail < c.head-head.result.layer + 1)
    (sym same) last.1 in
    let read = height_read (g.R.Rows.content c.args.rows.now) c.args.link c.head-head.result
    (some c.args.link c.if-link-eq0.false) c.head-head.ensures.value in (
      omega (arith, c.decreases, falls, read),
      (
        search rules,
        (
          search rules,
          subst (λ (x : Content). ToFell x c.loop.desk c.head-head.result.tail)
              (sym same) last.0,
        ),
      ),
    )

pub returns-clause-fells : goal.returns-clause-fells
returns-clause-fells g t c = λ z.
    let same = ap g.R.Rows.content c.loop.invariant.same in
    let last = at_last _ _ _ _ _ _ _ _ _ _ _ (c.loop.invariant.felling z)
    (omega (arith, c.loop-test.false, c.loop.auto.counter-end)) in
    let fells =
    subst (λ (x : Content). (y : ToFell x c.loop.desk c.head-head.result.tail)
    → Moves c.loop.desk c.fell_at-2.new.desk [] (used y.placed)) same c.fell_at-2.ensures.fells
    in
    last.2 c.fell_at-2.new.desk (fells last.0)
