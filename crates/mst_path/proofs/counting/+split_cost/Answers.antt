use Rattle.mst_path.proofs.Names.{◌≡◌, ◌∙◌, ◌<◌, ◌+◌, ℕ, ◌==◌, ◌&&◌, Bool, sym, ap, subst, arith, rules, ◌^◌, Format, Content, State, tree_of, below, above, is_empty, side_rows, split_rows, height_at, ToSplit, IsOpened, OpensGap, OpensEntry}
use Rattle.mst_path.proofs.lemmas.steps.Splitting.{positive, none_rows, no_below, no_above, no_entry, split_inner, split_falls, below_is, above_is, rows_are, rows_counted}
use Rattle.mst_path.proofs.counting.+split_cost.Given.{Over}
use Rattle.mst_path.proofs.counting.+split_cost.Goals.{In-Down, After-is_no_side-none_above}
use Rattle.mst_path.proofs.counting.+split_cost.Goals as goal

pub top_step-requires : goal.top_step-requires
top_step-requires g t c =
    let format = c.requires.tree.0 in
    record {
      tree = (
        format,
        c.requires.tree.1,
        c.requires.tree.2.tree,
      );
      some =
          positive c.args.link c.if-link-eq0.false;
    }

pub unreachable-requires : goal.unreachable-requires
unreachable-requires g t c =
    let format = c.requires.tree.0 in
    let C = g.R.Rows.content c.args.rows.now in
    let s = c.requires.tree.1 in
    let z = c.requires.tree.2.tree in
    let here : OpensEntry format C s c.args.link z c.args.key.now c.in_default.field-0 =
    subst (IsOpened format C s c.args.link z c.args.key.now) c.in_default.is
    (c.top_step.ensures.opened format s z) in
    no_entry format C s c.args.link c.args.key.now c.requires.tree.2 c.in_default.field-0 here

-- ---- the key falls into a gap

module _ (g : Over) (n : ℕ) (c : goal.In-Down g n) (format : Format) (s : State)
    (z : ToSplit format (g.R.Rows.content c.args.rows.now) s c.args.link c.args.key.now) where
  opened : OpensGap format (g.R.Rows.content c.args.rows.now) s c.args.link
      z.tree
      c.args.key.now c.in-Down.child c.in-Down.frame
  opened =
      subst (IsOpened format (g.R.Rows.content c.args.rows.now) s c.args.link
      z.tree
      c.args.key.now) c.in-Down.is
      (c.top_step.ensures.opened format s
      z.tree)

pub split_cost-inner-requires : goal.split_cost-inner-requires
split_cost-inner-requires g t c κs within =
    let format = c.requires.tree.0 in
    let C = g.R.Rows.content c.args.rows.now in
    let s = c.requires.tree.1 in
    let z = c.requires.tree.2 in
    let o = opened g t (goal.at.split_cost-inner-requires g t c).In-Down format s z in
    let same = ap g.R.Rows.content c.top_step.ensures.same in
    let less = split_falls format C s c.args.link c.args.key.now z c.in-Down.child c.in-Down.frame o
    in
    let falls = subst (λ (x : Content). height_at x c.in-Down.child < height_at C c.args.link)
    (sym same) less in (
      omega (arith, c.decreases, falls),
      (
        search rules,
        subst (λ (x : Content). (f : Format) × (q : State)
            × (y : ToSplit f x q c.in-Down.child c.args.key.now)
            × (split_rows c.args.key.now (tree_of f y.tree.placed) < 2 ^ 32)) (sym same) (
              format,
              s,
              split_inner format C s c.args.link c.args.key.now z c.in-Down.child
                  c.in-Down.frame o,
              omega (
                arith,
                c.requires.tree.3,
                rows_are format C s c.args.link c.args.key.now z
                    c.in-Down.child c.in-Down.frame o,
              ),
            ),
      ),
    )

-- ---- what the gap costs is known

module _ (g : Over) (n : ℕ) (c : goal.After-is_no_side-none_above g n) (format : Format) (s : State)
    (z : ToSplit format (g.R.Rows.content c.args.rows.now) s c.args.link c.args.key.now)
    (o : OpensGap format (g.R.Rows.content c.args.rows.now) s c.args.link
    z.tree
    c.args.key.now c.in-Down.child c.in-Down.frame) where
  abbrev inner : ToSplit format (g.R.Rows.content c.args.rows.now) s c.in-Down.child c.args.key.now
  inner = split_inner format (g.R.Rows.content c.args.rows.now) s c.args.link c.args.key.now z
      c.in-Down.child c.in-Down.frame o

  none_below : c.is_no_side-none_below.result ≡ is_empty
      (below c.args.key.now (tree_of format z.tree.placed))
  none_below =
      let inside =
      subst (λ (x : Content). (q : State)
      (y : ToSplit format x q c.in-Down.child c.args.key.now)
      → c.split_cost-inner.result.none_below ≡ is_empty
      (below c.args.key.now (tree_of format y.tree.placed)))
      (ap g.R.Rows.content c.top_step.ensures.same) (c.split_cost-inner.ensures.below format) s
      inner in
      c.is_no_side-none_below.ensures.none
      ∙ ap (λ (b : Bool). (c.in-Down.frame.front.count == 0) && b) inside
      ∙ sym (below_is format (g.R.Rows.content c.args.rows.now) s c.args.link c.args.key.now z
      c.in-Down.child c.in-Down.frame o)

  none_above : c.is_no_side-none_above.result ≡ is_empty
      (above c.args.key.now (tree_of format z.tree.placed))
  none_above =
      let inside =
      subst (λ (x : Content). (q : State)
      (y : ToSplit format x q c.in-Down.child c.args.key.now)
      → c.split_cost-inner.result.none_above ≡ is_empty
      (above c.args.key.now (tree_of format y.tree.placed)))
      (ap g.R.Rows.content c.top_step.ensures.same) (c.split_cost-inner.ensures.above format) s
      inner in
      c.is_no_side-none_above.ensures.none
      ∙ ap (λ (b : Bool). (c.in-Down.frame.back.count == 0) && b) inside
      ∙ sym (above_is format (g.R.Rows.content c.args.rows.now) s c.args.link c.args.key.now z
      c.in-Down.child c.in-Down.frame o)

  counted : side_rows c.in-Down.frame.front.count c.is_no_side-none_above.result + side_rows
      c.in-Down.frame.back.count c.is_no_side-none_below.result + c.split_cost-inner.result.rows
      ≡ split_rows c.args.key.now (tree_of format z.tree.placed)
  counted =
      let rows =
      subst (λ (x : Content). (q : State)
      (y : ToSplit format x q c.in-Down.child c.args.key.now) → c.split_cost-inner.result.rows
      ≡ split_rows c.args.key.now (tree_of format y.tree.placed))
      (ap g.R.Rows.content c.top_step.ensures.same) (c.split_cost-inner.ensures.rows format) s
      inner in
      omega (
        arith,
        rows,
        rows_counted format (g.R.Rows.content c.args.rows.now) s c.args.link
            c.args.key.now z c.in-Down.child c.in-Down.frame o c.is_no_side-none_below.result
            c.is_no_side-none_above.result none_below none_above,
      )

pub side_cost-lower-requires : goal.side_cost-lower-requires
side_cost-lower-requires g t c =
    let format = c.requires.tree.0 in
    let at = goal.at.side_cost-lower-requires g t c in
    record {
      few =
          omega (
            arith,
            c.requires.tree.3,
            counted g t at.After-is_no_side-none_above format
                c.requires.tree.1 c.requires.tree.2
                (opened g t at.In-Down format c.requires.tree.1 c.requires.tree.2),
          );
    }

pub side_cost-upper-requires : goal.side_cost-upper-requires
side_cost-upper-requires g t c =
    let format = c.requires.tree.0 in
    let at = goal.at.side_cost-upper-requires g t c in
    record {
      few =
          omega (
            arith,
            c.requires.tree.3,
            counted g t at.After-is_no_side-none_above format
                c.requires.tree.1 c.requires.tree.2
                (opened g t at.In-Down format c.requires.tree.1 c.requires.tree.2),
          );
    }

pub overflow_add-result : goal.overflow_add-result
overflow_add-result g t c =
    let format = c.requires.tree.0 in
    let at = goal.at.overflow_add-result g t c in
    omega (
      arith,
      c.requires.tree.3,
      counted g t at.After-is_no_side-none_above format
          c.requires.tree.1 c.requires.tree.2
          (opened g t at.In-Down format c.requires.tree.1 c.requires.tree.2),
      c.side_cost-lower.ensures.rows,
      c.side_cost-upper.ensures.rows,
    )

pub overflow_add-result-2 : goal.overflow_add-result-2
overflow_add-result-2 g t c =
    let format = c.requires.tree.0 in
    let at = goal.at.overflow_add-result-2 g t c in
    omega (
      arith,
      c.requires.tree.3,
      counted g t at.After-is_no_side-none_above format
          c.requires.tree.1 c.requires.tree.2
          (opened g t at.In-Down format c.requires.tree.1 c.requires.tree.2),
      c.side_cost-lower.ensures.rows,
      c.side_cost-upper.ensures.rows,
    )

pub returns-clause-rows : goal.returns-clause-rows
returns-clause-rows g t c = λ format s z.
    let at = goal.at.returns-clause-rows g t c in
    omega (
      arith,
      counted g t at.After-is_no_side-none_above format s z
          (opened g t at.In-Down format s z),
      c.side_cost-lower.ensures.rows,
      c.side_cost-upper.ensures.rows,
    )

pub returns-clause-below : goal.returns-clause-below
returns-clause-below g t c = λ format s z.
    let at = goal.at.returns-clause-below g t c in
    none_below g t at.After-is_no_side-none_above format s z (opened g t at.In-Down format s z)

pub returns-clause-above : goal.returns-clause-above
returns-clause-above g t c = λ format s z.
    let at = goal.at.returns-clause-above g t c in
    none_above g t at.After-is_no_side-none_above format s z (opened g t at.In-Down format s z)

-- ---- there is no tree

pub returns-then-link-eq0-clause-rows : goal.returns-then-link-eq0-clause-rows
returns-then-link-eq0-clause-rows g t c = λ format s z.
    sym (none_rows format (g.R.Rows.content c.args.rows.now) s c.args.link c.args.key.now z
    c.if-link-eq0.true)

pub returns-then-link-eq0-clause-below : goal.returns-then-link-eq0-clause-below
returns-then-link-eq0-clause-below g t c = λ format s z.
    sym (no_below format (g.R.Rows.content c.args.rows.now) s c.args.link c.args.key.now z
    c.if-link-eq0.true)

pub returns-then-link-eq0-clause-above : goal.returns-then-link-eq0-clause-above
returns-then-link-eq0-clause-above g t c = λ format s z.
    sym (no_above format (g.R.Rows.content c.args.rows.now) s c.args.link c.args.key.now z
    c.if-link-eq0.true)
