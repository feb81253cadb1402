use Rattle.mst_path.proofs.Names.{Format, ◌≡◌, ◌≤◌, ◌<◌, ◌+◌, ℕ, sym, ap, subst, arith, rules, Content, State, TwoTrees, both_rows, height_at}
use Rattle.mst_path.proofs.lemmas.trees.Joined.{lower_trees}
use Rattle.mst_path.proofs.joining.+join_cost.Given.{Over}
use Rattle.mst_path.proofs.joining.+join_cost.Goals.{After-join_cost-inner}
use Rattle.mst_path.proofs.joining.+join_cost.Goals as goal

pub join_cost-inner-requires : goal.join_cost-inner-requires
join_cost-inner-requires g t c κs within =
    let format = c.requires.trees.0 in
    let s = c.requires.trees.1 in
    let z = c.requires.trees.2 in
    let m = c.meet-meeting.result in
    let met = c.meet-meeting.ensures.met format s z in
    let same = ap g.R.Rows.content c.meet-meeting.ensures.same in
    let less = lower_trees format (g.R.Rows.content c.args.rows.now) s c.args.left c.args.right z m
    met in
    let falls =
    subst (λ (x : Content). height_at x m.left + height_at x m.right < height_at
    (g.R.Rows.content c.args.rows.now) c.args.left + height_at
    (g.R.Rows.content c.args.rows.now) c.args.right) (sym same) less in (
      omega (arith, c.decreases, falls),
      (
        search rules,
        subst (λ (x : Content). (f : Format) × (q : State) × (y : TwoTrees f x q m.left m.right)
            × (both_rows f y ≤ 65535)) (sym same)
            (format, s, met.inner, omega (arith, c.requires.trees.3, met.rows)),
      ),
    )

pub rows-requires : goal.rows-requires
rows-requires g t c =
    let format = c.requires.trees.0 in
    record {
      few =
          omega (
            arith,
            c.requires.trees.3,
            (c.meet-meeting.ensures.met format c.requires.trees.1 c.requires.trees.2).rows,
          );
    }

module _ (g : Over) (n : ℕ) (c : goal.After-join_cost-inner g n) (format : Format) (s : State)
    (z : TwoTrees format (g.R.Rows.content c.args.rows.now) s c.args.left c.args.right) where
  cost_inside : c.join_cost-inner.result ≡ both_rows format
      (c.meet-meeting.ensures.met format s z).inner
  cost_inside =
      subst (λ (x : Content). (q : State)
      (y : TwoTrees format x q c.meet-meeting.result.left c.meet-meeting.result.right)
      → c.join_cost-inner.result ≡ both_rows format y)
      (ap g.R.Rows.content c.meet-meeting.ensures.same) (c.join_cost-inner.ensures.cost format) s
      (c.meet-meeting.ensures.met format s z).inner

pub returns-clause-cost : goal.returns-clause-cost
returns-clause-cost g t c = λ format s z.
    omega (
      arith,
      cost_inside g t (goal.at.returns-clause-cost g t c).After-join_cost-inner format s
          z,
      c.rows.ensures.rows,
      (c.meet-meeting.ensures.met format s z).rows,
    )

pub overflow_add-result : goal.overflow_add-result
overflow_add-result g t c =
    let format = c.requires.trees.0 in
    omega (
      arith,
      cost_inside g t (goal.at.overflow_add-result g t c).After-join_cost-inner format
          c.requires.trees.1 c.requires.trees.2,
      c.rows.ensures.rows,
      (c.meet-meeting.ensures.met format c.requires.trees.1 c.requires.trees.2).rows,
      c.requires.trees.3,
    )
