use Rattle.mst_path.proofs.Names.{◌≡◌, ◌≤◌, ◌<◌, ◌+◌, ℕ, List, sym, ap, subst, arith, rules, ◌^◌, Format, layer_in, Content, State, tree_of, split_rows, height, height_at, ToSplit, RisingTree, pair_rows, IsPutStep, PutsDown, PutsBetween, PutsAnew}
use Rattle.mst_path.proofs.lemmas.steps.PutGaps.{whole_split, put_top_rows, falls_at}
use Rattle.mst_path.proofs.counting.+put_cost.Given.{Over}
use Rattle.mst_path.proofs.counting.+put_cost.Goals.{In-OnTop, After-split_cost, In-Down, After-put_cost-inner, In-Between, After-split_cost-split, In-Anew}
use Rattle.mst_path.proofs.counting.+put_cost.Goals as goal

-- ---- all keys are of lower layers

module _ (g : Over) (n : ℕ) (c : goal.In-OnTop g n) (format : Format) (s : State)
    (z : RisingTree format (g.R.Rows.content c.args.rows.now) s c.args.link)
    (layer : c.args.layer ≡ layer_in format c.args.key.now) where
  low : height (tree_of format z.tree.placed) ≤ c.args.layer
  low =
      subst (IsPutStep format (g.R.Rows.content c.args.rows.now) s c.args.link z c.args.layer
      c.args.key.now) c.in-OnTop.is (c.put_step.ensures.step format s z layer)

module _ (g : Over) (n : ℕ) (c : goal.After-split_cost g n) (format : Format) (s : State)
    (z : RisingTree format (g.R.Rows.content c.args.rows.now) s c.args.link)
    (layer : c.args.layer ≡ layer_in format c.args.key.now) where
  cost_on_top : height (tree_of format z.tree.placed) ≤ c.args.layer → (v : List ℕ)
      → c.split_cost.result.rows + 2 ≡ pair_rows format z c.args.layer c.args.key.now v
  cost_on_top below v =
      let cost =
      subst (λ (x : Content). (q : State) (y : ToSplit format x q c.args.link c.args.key.now)
      → c.split_cost.result.rows ≡ split_rows c.args.key.now (tree_of format y.tree.placed))
      (ap g.R.Rows.content c.put_step.ensures.same) (c.split_cost.ensures.rows format) s
      (whole_split format (g.R.Rows.content c.args.rows.now) s c.args.link z c.args.layer
      c.args.key.now layer below) in
      omega (
        arith,
        cost,
        put_top_rows format (tree_of format z.tree.placed) c.args.layer
            c.args.key.now v below,
      )

pub split_cost-requires : goal.split_cost-requires
split_cost-requires g t c =
    let format = c.requires.tree.0 in
    let s = c.requires.tree.1 in
    let z = c.requires.tree.2 in
    let below = low g t (goal.at.split_cost-requires g t c).In-OnTop format s z c.requires.tree.5 in
    record {
      tree =
          subst (λ (x : Content). (f : Format) × (q : State)
          × (y : ToSplit f x q c.args.link c.args.key.now)
          × (split_rows c.args.key.now (tree_of f y.tree.placed) < 2 ^ 32))
          (sym (ap g.R.Rows.content c.put_step.ensures.same)) (
            format,
            s,
            whole_split format (g.R.Rows.content c.args.rows.now) s c.args.link z
                c.args.layer c.args.key.now c.requires.tree.5 below,
            omega (
              arith,
              c.requires.tree.4,
              put_top_rows format (tree_of format z.tree.placed)
                  c.args.layer c.args.key.now c.requires.tree.3 below,
            ),
          );
    }

pub overflow_add-result : goal.overflow_add-result
overflow_add-result g t c =
    let format = c.requires.tree.0 in
    let at = goal.at.overflow_add-result g t c in
    omega (
      arith,
      c.requires.tree.4,
      cost_on_top g t at.After-split_cost format c.requires.tree.1
          c.requires.tree.2 c.requires.tree.5
          (low g t at.In-OnTop format c.requires.tree.1 c.requires.tree.2 c.requires.tree.5)
          c.requires.tree.3,
    )

pub returns-in-OnTop-clause-cost : goal.returns-in-OnTop-clause-cost
returns-in-OnTop-clause-cost g t c = λ format s z v layer.
    let at = goal.at.returns-in-OnTop-clause-cost g t c in
    omega (
      arith,
      cost_on_top g t at.After-split_cost format s z layer
          (low g t at.In-OnTop format s z layer) v,
    )

-- ---- the pair goes into a gap

module _ (g : Over) (n : ℕ) (c : goal.In-Down g n) (format : Format) (s : State)
    (z : RisingTree format (g.R.Rows.content c.args.rows.now) s c.args.link)
    (layer : c.args.layer ≡ layer_in format c.args.key.now) where
  down : PutsDown format (g.R.Rows.content c.args.rows.now) s c.args.link z c.args.layer
      c.args.key.now c.in-Down.child c.in-Down.frame
  down =
      subst (IsPutStep format (g.R.Rows.content c.args.rows.now) s c.args.link z c.args.layer
      c.args.key.now) c.in-Down.is (c.put_step.ensures.step format s z layer)

module _ (g : Over) (n : ℕ) (c : goal.After-put_cost-inner g n) (format : Format) (s : State)
    (inner : RisingTree format (g.R.Rows.content c.args.rows.now) s c.in-Down.child)
    (layer : c.args.layer ≡ layer_in format c.args.key.now) where
  cost_in_gap : (v : List ℕ) → c.put_cost-inner.result ≡ pair_rows format inner c.args.layer
      c.args.key.now v
  cost_in_gap v =
      subst (λ (x : Content). (q : State) (y : RisingTree format x q c.in-Down.child) (w : List ℕ)
      → c.args.layer ≡ layer_in format c.args.key.now → c.put_cost-inner.result ≡ pair_rows format y
      c.args.layer c.args.key.now w) (ap g.R.Rows.content c.put_step.ensures.same)
      (c.put_cost-inner.ensures.cost format) s inner v layer

pub put_cost-inner-requires : goal.put_cost-inner-requires
put_cost-inner-requires g t c κs within =
    let format = c.requires.tree.0 in
    let s = c.requires.tree.1 in
    let d = down g t (goal.at.put_cost-inner-requires g t c).In-Down format s c.requires.tree.2
    c.requires.tree.5 in
    let same = ap g.R.Rows.content c.put_step.ensures.same in
    let less = falls_at format (g.R.Rows.content c.args.rows.now) s c.args.link c.requires.tree.2
    c.args.layer c.args.key.now c.in-Down.child c.in-Down.frame d in
    let falls =
    subst (λ (x : Content). height_at x c.in-Down.child < height_at
    (g.R.Rows.content c.args.rows.now) c.args.link) (sym same) less in (
      omega (arith, c.decreases, falls),
      (
        search rules,
        subst (λ (x : Content). (f : Format) × (q : State)
            × (y : RisingTree f x q c.in-Down.child) × (w : List ℕ)
            × (pair_rows f y c.args.layer c.args.key.now w < 2 ^ 32)
            × (c.args.layer ≡ layer_in f c.args.key.now)) (sym same) (
              format,
              s,
              d.inner,
              c.requires.tree.3,
              omega (arith, c.requires.tree.4, d.rows c.requires.tree.3),
              c.requires.tree.5,
            ),
      ),
    )

pub rows-requires : goal.rows-requires
rows-requires g t c =
    let format = c.requires.tree.0 in
    record {
      few =
          omega (
            arith,
            c.requires.tree.4,
            (down g t (goal.at.rows-requires g t c).In-Down format c.requires.tree.1
                c.requires.tree.2
                c.requires.tree.5).rows c.requires.tree.3,
          );
    }

pub overflow_add-result-in-Down : goal.overflow_add-result-in-Down
overflow_add-result-in-Down g t c =
    let format = c.requires.tree.0 in
    let at = goal.at.overflow_add-result-in-Down g t c in
    let d = down g t at.In-Down format c.requires.tree.1 c.requires.tree.2 c.requires.tree.5 in
    omega (
      arith,
      cost_in_gap g t at.After-put_cost-inner format c.requires.tree.1 d.inner
          c.requires.tree.5 c.requires.tree.3,
      c.rows.ensures.rows,
      d.rows c.requires.tree.3,
      c.requires.tree.4,
    )

pub returns-in-Down-clause-cost : goal.returns-in-Down-clause-cost
returns-in-Down-clause-cost g t c = λ format s z v layer.
    let at = goal.at.returns-in-Down-clause-cost g t c in
    let d = down g t at.In-Down format s z layer in
    omega (
      arith,
      cost_in_gap g t at.After-put_cost-inner format s d.inner layer v,
      c.rows.ensures.rows,
      d.rows v,
    )

-- ---- the new entry goes between

module _ (g : Over) (n : ℕ) (c : goal.In-Between g n) (format : Format) (s : State)
    (z : RisingTree format (g.R.Rows.content c.args.rows.now) s c.args.link)
    (layer : c.args.layer ≡ layer_in format c.args.key.now) where
  between : PutsBetween format (g.R.Rows.content c.args.rows.now) s c.args.link z c.args.layer
      c.args.key.now c.in-Between.child c.in-Between.frame
  between =
      subst (IsPutStep format (g.R.Rows.content c.args.rows.now) s c.args.link z c.args.layer
      c.args.key.now) c.in-Between.is (c.put_step.ensures.step format s z layer)

module _ (g : Over) (n : ℕ) (c : goal.After-split_cost-split g n) (format : Format) (s : State)
    (inner : ToSplit format (g.R.Rows.content c.args.rows.now) s c.in-Between.child c.args.key.now)
  where
    cost_of_sides : c.split_cost-split.result.rows ≡ split_rows c.args.key.now
        (tree_of format inner.tree.placed)
    cost_of_sides =
        subst (λ (x : Content). (q : State)
        (y : ToSplit format x q c.in-Between.child c.args.key.now)
        → c.split_cost-split.result.rows ≡ split_rows c.args.key.now (tree_of format y.tree.placed))
        (ap g.R.Rows.content c.put_step.ensures.same) (c.split_cost-split.ensures.rows format) s
        inner

pub split_cost-split-requires : goal.split_cost-split-requires
split_cost-split-requires g t c =
    let format = c.requires.tree.0 in
    let mid = between g t (goal.at.split_cost-split-requires g t c).In-Between format
    c.requires.tree.1 c.requires.tree.2 c.requires.tree.5 in
    record {
      tree =
          subst (λ (x : Content). (f : Format) × (q : State)
          × (y : ToSplit f x q c.in-Between.child c.args.key.now)
          × (split_rows c.args.key.now (tree_of f y.tree.placed) < 2 ^ 32))
          (sym (ap g.R.Rows.content c.put_step.ensures.same)) (
            format,
            c.requires.tree.1,
            mid.inner,
            omega (arith, c.requires.tree.4, mid.rows c.requires.tree.3),
          );
    }

pub rows_with_entry-requires : goal.rows_with_entry-requires
rows_with_entry-requires g t c =
    let format = c.requires.tree.0 in
    record {
      few =
          omega (
            arith,
            c.requires.tree.4,
            (between g t (goal.at.rows_with_entry-requires g t c).In-Between format
                c.requires.tree.1
                c.requires.tree.2 c.requires.tree.5).rows c.requires.tree.3,
          );
    }

pub overflow_add-result-in-Between : goal.overflow_add-result-in-Between
overflow_add-result-in-Between g t c =
    let format = c.requires.tree.0 in
    let at = goal.at.overflow_add-result-in-Between g t c in
    let mid = between g t at.In-Between format c.requires.tree.1 c.requires.tree.2 c.requires.tree.5
    in
    omega (
      arith,
      cost_of_sides g t at.After-split_cost-split format c.requires.tree.1 mid.inner,
      c.rows_with_entry.ensures.rows,
      mid.rows c.requires.tree.3,
      c.requires.tree.4,
    )

pub returns-in-Between-clause-cost : goal.returns-in-Between-clause-cost
returns-in-Between-clause-cost g t c = λ format s z v layer.
    let at = goal.at.returns-in-Between-clause-cost g t c in
    let mid = between g t at.In-Between format s z layer in
    omega (
      arith,
      cost_of_sides g t at.After-split_cost-split format s mid.inner,
      c.rows_with_entry.ensures.rows,
      mid.rows v,
    )

-- ---- the entry is written anew

module _ (g : Over) (n : ℕ) (c : goal.In-Anew g n) (format : Format) (s : State)
    (z : RisingTree format (g.R.Rows.content c.args.rows.now) s c.args.link)
    (layer : c.args.layer ≡ layer_in format c.args.key.now) where
  anew : PutsAnew format (g.R.Rows.content c.args.rows.now) s c.args.link z c.args.layer
      c.args.key.now c.in-Anew.meeting
  anew =
      subst (IsPutStep format (g.R.Rows.content c.args.rows.now) s c.args.link z c.args.layer
      c.args.key.now) c.in-Anew.is (c.put_step.ensures.step format s z layer)

pub rows_with_entry-requires-in-Anew : goal.rows_with_entry-requires-in-Anew
rows_with_entry-requires-in-Anew g t c =
    let format = c.requires.tree.0 in
    record {
      few =
          omega (
            arith,
            c.requires.tree.4,
            (anew g t (goal.at.rows_with_entry-requires-in-Anew g t c).In-Anew format
                c.requires.tree.1
                c.requires.tree.2 c.requires.tree.5).rows c.requires.tree.3,
          );
    }

pub returns-in-Anew-clause-cost : goal.returns-in-Anew-clause-cost
returns-in-Anew-clause-cost g t c = λ format s z v layer.
    omega (
      arith,
      c.rows_with_entry-in-Anew.ensures.rows,
      (anew g t (goal.at.returns-in-Anew-clause-cost g t c).In-Anew format s z layer).rows v,
    )
