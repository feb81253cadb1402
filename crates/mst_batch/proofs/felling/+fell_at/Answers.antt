use Rattle.mst_batch.proofs.Names.{◌≡◌, ℕ, zero, suc, ◌+◌, ◌-◌, ◌<◌, Bool, false, true≢false, List, [], Some, IsSome, sym, ◌∙◌, ap, subst, arith, rules, Content, part_at, State, keyed_links, bare_links, ToFell, height_at, Moves, Felling, height_read, moves_none, fallen}
use Rattle.mst_path.proofs.lemmas.steps.Felling.{AtEntry, started, entry_there, at_entry, at_last}
use Rattle.mst_batch.specs.Kept.{stays}
use Rattle.mst_batch.proofs.Fellings.{fallen_in, opens, nothing_falls, with_key, keyed_at}
use Rattle.mst_batch.proofs.felling.+fell_at.Given.{Over}
use Rattle.mst_batch.proofs.felling.+fell_at.Goals.{After-kill-in-loop}
use Rattle.mst_batch.proofs.felling.+fell_at.Goals as goal

-- where something falls there is a link
some : (marks : List Bool) (link : ℕ) → stays marks link ≡ false → 0 < link
some marks zero other = absurd (true≢false other)
some marks (suc n) other = omega arith

pub loop-init : goal.loop-init
loop-init g t c = record {
  same = c.head-head.ensures.same;
  felling =
      λ z. subst (λ (s : State). Felling z.format (fallen c.args.kept.now)
      (g.R.Rows.content c.args.rows.now) c.args.desk.now s c.head-head.result.layer
      (fallen c.args.kept.now z.placed) c.head-head.result.tail c.head-head.result.first 0
      c.head-head.result.count) (sym c.kill.ensures.dead)
      (started (g.R.Rows.content c.args.rows.now) c.args.desk.now c.args.link z
      (some c.args.kept.now c.args.link (sym c.is_left.ensures.left ∙ c.if-is_left.false))
      (fallen c.args.kept.now)
      (opens c.args.kept.now c.args.link (sym c.is_left.ensures.left ∙ c.if-is_left.false))
      c.head-head.result c.head-head.ensures.value);
}

pub returns-then-is_left-clause-fells : goal.returns-then-is_left-clause-fells
returns-then-is_left-clause-fells g t c = λ z.
    subst (λ (rows : List ℕ). Moves c.args.desk.now c.args.desk.now [] rows)
    (sym (nothing_falls c.args.kept.now (g.R.Rows.content c.args.rows.now) c.args.desk.now
    c.args.link z (sym c.is_left.ensures.left ∙ c.if-is_left.true)))
    (moves_none c.args.desk.now)

-- ---- the next entry

module _ (g : Over) (t : ℕ) (c : After-kill-in-loop g t)
    (z : ToFell (g.R.Rows.content c.args.rows.now) c.args.desk.now c.args.link) where
  keyed : (key : List ℕ)
      × (part_at keyed_links (g.R.Rows.content c.args.rows.now) (c.loop.next - 1)
      ≡ Some (with_key c.links-links.result key))
  keyed = keyed_at (g.R.Rows.content c.args.rows.now) (c.loop.next - 1) c.links-links.result
      (subst (λ (x : Content). part_at bare_links x (c.loop.next - 1) ≡ Some c.links-links.result)
      (ap g.R.Rows.content c.loop.invariant.same) c.links-links.ensures.value)

  entry : AtEntry z.format (fallen c.args.kept.now) (g.R.Rows.content c.args.rows.now)
      c.args.desk.now c.loop.desk c.head-head.result.layer (fallen c.args.kept.now z.placed)
      c.head-head.result.tail (c.loop.next - 1) c.loop.counter c.head-head.result.count
      (with_key c.links-links.result keyed.0)
  entry =
      at_entry _ _ _ _ _ _ _ _ _ _ _ (c.loop.invariant.felling z) (fallen_in c.args.kept.now)
      c.loop-test.true (with_key c.links-links.result keyed.0) keyed.1

  same_rows : g.R.Rows.content c.links-links.new.self ≡ g.R.Rows.content c.args.rows.now
  same_rows = ap g.R.Rows.content (c.links-links.ensures.same ∙ c.loop.invariant.same)

  child : ToFell (g.R.Rows.content c.links-links.new.self) c.kill-in-loop.new.self
      c.links-links.result.child
  child = subst (λ (x : Content). ToFell x c.kill-in-loop.new.self c.links-links.result.child)
      (sym same_rows)
      (subst (λ (s : State). ToFell (g.R.Rows.content c.args.rows.now) s c.links-links.result.child)
      (sym c.kill-in-loop.ensures.dead) entry.below)

pub kill-requires-in-loop : goal.kill-requires-in-loop
kill-requires-in-loop g t c =
    record {
      born =
          (entry_there _ _ _ _ _ _ _ _ _ _ _ (c.loop.invariant.felling c.requires.tree)
          c.loop-test.true).2;
    }

pub fell_at-requires : goal.fell_at-requires
fell_at-requires g t c κs within =
    let at = (goal.at.fell_at-requires g t c).After-kill-in-loop in
    let z = c.requires.tree in
    let falls =
    subst (λ (x : Content). height_at x c.links-links.result.child < c.head-head.result.layer
    + 1) (sym (same_rows g t at z)) (entry g t at z).lower_down in
    let read = height_read (g.R.Rows.content c.args.rows.now) c.args.link c.head-head.result
    (some c.args.kept.now c.args.link (sym c.is_left.ensures.left ∙ c.if-is_left.false))
    c.head-head.ensures.value in
    (omega (arith, c.decreases, falls, read), (search rules, (search rules, child g t at z)))

pub loop-preserved : goal.loop-preserved
loop-preserved g t c = record {
  same = c.fell_at.ensures.same ∙ c.links-links.ensures.same ∙ c.loop.invariant.same;
  felling = λ z.
      let at = (goal.at.loop-preserved g t c).After-kill-in-loop in
      let here = entry g t at z in
      let content = same_rows g t at z in
      let dead = c.kill-in-loop.ensures.dead in
      let fells =
      subst (λ (x : Content). (y : ToFell x c.kill-in-loop.new.self c.links-links.result.child)
      → Moves c.kill-in-loop.new.self c.fell_at.new.desk [] (fallen c.args.kept.now y.placed))
      content
      c.fell_at.ensures.fells in
      here.after c.fell_at.new.desk
      (subst (λ (s : State).
      (y : ToFell (g.R.Rows.content c.args.rows.now) s c.links-links.result.child)
      → Moves s c.fell_at.new.desk [] (fallen c.args.kept.now y.placed)) dead fells here.below);
}

-- ---- the last gap

pub fell_at-requires-2 : goal.fell_at-requires-2
fell_at-requires-2 g t c κs within =
    let z = c.requires.tree in
    let same = ap g.R.Rows.content c.loop.invariant.same in
    let last = at_last _ _ _ _ _ _ _ _ _ _ _ (c.loop.invariant.felling z)
    (omega (arith, c.loop-test.false, c.loop.auto.counter-end)) in
    let falls =
    subst (λ (x : Content). height_at x c.head-head.result.tail < c.head-head.result.layer + 1)
    (sym same) last.1 in
    let read = height_read (g.R.Rows.content c.args.rows.now) c.args.link c.head-head.result
    (some c.args.kept.now c.args.link (sym c.is_left.ensures.left ∙ c.if-is_left.false))
    c.head-head.ensures.value in (
      omega (arith, c.decreases, falls, read),
      (
        search rules,
        (
          search rules,
          subst (λ (x : Content). ToFell x c.loop.desk c.head-head.result.tail)
              (sym same) last.0,
        ),
      ),
    )

pub returns-clause-fells : goal.returns-clause-fells
returns-clause-fells g t c = λ z.
    let same = ap g.R.Rows.content c.loop.invariant.same in
    let last = at_last _ _ _ _ _ _ _ _ _ _ _ (c.loop.invariant.felling z)
    (omega (arith, c.loop-test.false, c.loop.auto.counter-end)) in
    let fells =
    subst (λ (x : Content). (y : ToFell x c.loop.desk c.head-head.result.tail)
    → Moves c.loop.desk c.fell_at-2.new.desk [] (fallen c.args.kept.now y.placed)) same
    c.fell_at-2.ensures.fells
    in
    last.2 c.fell_at-2.new.desk (fells last.0)

-- ---- what is read there

pub overflow_sub-next : goal.overflow_sub-next
overflow_sub-next g t c =
    omega (
      arith,
      (entry_there _ _ _ _ _ _ _ _ _ _ _ (c.loop.invariant.felling c.requires.tree)
          c.loop-test.true).1,
    )

pub overflow_sub-next-in-loop : goal.overflow_sub-next-in-loop
overflow_sub-next-in-loop g t c =
    omega (
      arith,
      (entry_there _ _ _ _ _ _ _ _ _ _ _ (c.loop.invariant.felling c.requires.tree)
          c.loop-test.true).1,
    )

pub links-links-requires : goal.links-links-requires
links-links-requires g t c =
    record {
      there =
          subst (λ (x : Content). IsSome (part_at keyed_links x (c.loop.next - 1)))
          (sym (ap g.R.Rows.content c.loop.invariant.same))
          (entry_there _ _ _ _ _ _ _ _ _ _ _ (c.loop.invariant.felling c.requires.tree)
          c.loop-test.true).0;
    }
