use Rattle.mst_path.proofs.Names.{Format, ◌≡◌, ◌≤◌, ◌<◌, ℕ, sym, ap, subst, arith, rules, Content, State, TwoTrees, both_rows, height_at, SearchTree, without_rows, IsOpened, OpensGap, OpensEntry}
use Rattle.mst_path.proofs.lemmas.steps.Removals.{rows_below, rows_here}
use Rattle.mst_path.proofs.lemmas.steps.Rounds.{lower_tree}
use Rattle.mst_path.proofs.remove_path.+remove_cost.Given.{Over}
use Rattle.mst_path.proofs.remove_path.+remove_cost.Goals.{In-Down, After-remove_cost-inner, In-Here, After-join_cost-joined}
use Rattle.mst_path.proofs.remove_path.+remove_cost.Goals as goal

-- ---- the key falls into a gap

module _ (g : Over) (n : ℕ) (c : goal.In-Down g n) (format : Format) (s : State)
    (z : SearchTree format (g.R.Rows.content c.args.rows.now) s c.args.link) where
  down : OpensGap format (g.R.Rows.content c.args.rows.now) s c.args.link z c.args.key.now
      c.in-Down.child c.in-Down.frame
  down = subst (IsOpened format (g.R.Rows.content c.args.rows.now) s c.args.link z c.args.key.now)
      c.in-Down.is (c.top_step.ensures.opened format s z)

module _ (g : Over) (n : ℕ) (c : goal.After-remove_cost-inner g n) (format : Format) (s : State)
    (inner : SearchTree format (g.R.Rows.content c.args.rows.now) s c.in-Down.child) where
  cost_in_gap : c.remove_cost-inner.result ≡ without_rows format inner c.args.key.now
  cost_in_gap =
      subst (λ (x : Content). (q : State) (y : SearchTree format x q c.in-Down.child)
      → c.remove_cost-inner.result ≡ without_rows format y c.args.key.now)
      (ap g.R.Rows.content c.top_step.ensures.same) (c.remove_cost-inner.ensures.cost format) s
      inner

pub remove_cost-inner-requires : goal.remove_cost-inner-requires
remove_cost-inner-requires g t c κs within =
    let format = c.requires.tree.0 in
    let s = c.requires.tree.1 in
    let d = down g t (goal.at.remove_cost-inner-requires g t c).In-Down format s c.requires.tree.2
    in
    let same = ap g.R.Rows.content c.top_step.ensures.same in
    let less = lower_tree format (g.R.Rows.content c.args.rows.now) s c.args.link c.requires.tree.2
    c.args.key.now c.in-Down.child c.in-Down.frame d in
    let falls =
    subst (λ (x : Content). height_at x c.in-Down.child < height_at
    (g.R.Rows.content c.args.rows.now) c.args.link) (sym same) less in (
      omega (arith, c.decreases, falls),
      (
        search rules,
        subst (λ (x : Content). (f : Format) × (q : State)
            × (y : SearchTree f x q c.in-Down.child) × (without_rows f y c.args.key.now ≤ 65535))
            (sym same) (format, s, d.inner, omega (arith, c.requires.tree.3, rows_below d)),
      ),
    )

pub rows-requires : goal.rows-requires
rows-requires g t c =
    let format = c.requires.tree.0 in
    record {
      few =
          omega (
            arith,
            c.requires.tree.3,
            rows_below (down g t (goal.at.rows-requires g t c).In-Down format c.requires.tree.1
                c.requires.tree.2),
          );
    }

pub overflow_add-result : goal.overflow_add-result
overflow_add-result g t c =
    let format = c.requires.tree.0 in
    let at = goal.at.overflow_add-result g t c in
    let d = down g t at.In-Down format c.requires.tree.1 c.requires.tree.2 in
    omega (
      arith,
      cost_in_gap g t at.After-remove_cost-inner format c.requires.tree.1 d.inner,
      c.rows.ensures.rows,
      rows_below d,
      c.requires.tree.3,
    )

pub returns-in-Down-clause-cost : goal.returns-in-Down-clause-cost
returns-in-Down-clause-cost g t c = λ format s z.
    let at = goal.at.returns-in-Down-clause-cost g t c in
    let d = down g t at.In-Down format s z in
    omega (
      arith,
      cost_in_gap g t at.After-remove_cost-inner format s d.inner,
      c.rows.ensures.rows,
      rows_below d,
    )

-- ---- the node has the key's entry

module _ (g : Over) (n : ℕ) (c : goal.In-Here g n) (format : Format) (s : State)
    (z : SearchTree format (g.R.Rows.content c.args.rows.now) s c.args.link) where
  here : OpensEntry format (g.R.Rows.content c.args.rows.now) s c.args.link z c.args.key.now
      c.in-Here.meeting
  here = subst (IsOpened format (g.R.Rows.content c.args.rows.now) s c.args.link z c.args.key.now)
      c.in-Here.is (c.top_step.ensures.opened format s z)

module _ (g : Over) (n : ℕ) (c : goal.After-join_cost-joined g n) (format : Format) (s : State)
    (trees : TwoTrees format (g.R.Rows.content c.args.rows.now) s c.in-Here.meeting.left
    c.in-Here.meeting.right) where
  cost_of_both : c.join_cost-joined.result ≡ both_rows format trees
  cost_of_both =
      subst (λ (x : Content). (q : State)
      (y : TwoTrees format x q c.in-Here.meeting.left c.in-Here.meeting.right)
      → c.join_cost-joined.result ≡ both_rows format y)
      (ap g.R.Rows.content c.top_step.ensures.same) (c.join_cost-joined.ensures.cost format) s trees

pub join_cost-joined-requires : goal.join_cost-joined-requires
join_cost-joined-requires g t c =
    let format = c.requires.tree.0 in
    let h = here g t (goal.at.join_cost-joined-requires g t c).In-Here format c.requires.tree.1
    c.requires.tree.2 in
    record {
      trees =
          subst (λ (x : Content). (f : Format) × (q : State)
          × (y : TwoTrees f x q c.in-Here.meeting.left c.in-Here.meeting.right)
          × (both_rows f y ≤ 65535)) (sym (ap g.R.Rows.content c.top_step.ensures.same))
          (format, c.requires.tree.1, h.inner, omega (arith, c.requires.tree.3, rows_here h));
    }

pub rows-requires-in-Here : goal.rows-requires-in-Here
rows-requires-in-Here g t c =
    let format = c.requires.tree.0 in
    record {
      few =
          omega (
            arith,
            c.requires.tree.3,
            rows_here (here g t (goal.at.rows-requires-in-Here g t c).In-Here format
                c.requires.tree.1 c.requires.tree.2),
          );
    }

pub overflow_add-result-in-Here : goal.overflow_add-result-in-Here
overflow_add-result-in-Here g t c =
    let format = c.requires.tree.0 in
    let at = goal.at.overflow_add-result-in-Here g t c in
    let h = here g t at.In-Here format c.requires.tree.1 c.requires.tree.2 in
    omega (
      arith,
      cost_of_both g t at.After-join_cost-joined format c.requires.tree.1 h.inner,
      c.rows-in-Here.ensures.rows,
      rows_here h,
      c.requires.tree.3,
    )

pub returns-in-Here-clause-cost : goal.returns-in-Here-clause-cost
returns-in-Here-clause-cost g t c = λ format s z.
    let at = goal.at.returns-in-Here-clause-cost g t c in
    let h = here g t at.In-Here format s z in
    omega (
      arith,
      cost_of_both g t at.After-join_cost-joined format s h.inner,
      c.rows-in-Here.ensures.rows,
      rows_here h,
    )
