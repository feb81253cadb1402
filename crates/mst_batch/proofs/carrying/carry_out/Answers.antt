use Rattle.mst_batch.proofs.Names.{List, refl, sym, arith, count_by-le-length, Pair, cost, tree, times, is_free, used, AfterChange, after_change, IsPlanOf, plan_of, rows_planned, tree_planned}
use Rattle.mst_path.proofs.lemmas.steps.Felling.{to_fell}
use Rattle.mst_path.proofs.lemmas.steps.Rounds.{regrown}
use Rattle.mst_batch.proofs.carrying.carry_out.Given.{Over}
use Rattle.mst_batch.proofs.carrying.carry_out.Goals.{After-replace}
use Rattle.mst_batch.proofs.carrying.carry_out.Goals as goal

pub returns-then-rows_of-free-clause-no_room : goal.returns-then-rows_of-free-clause-no_room
returns-then-rows_of-free-clause-no_room g c = λ change p m st.
    omega (
      arith,
      p.rows m st,
      c.rows_of.ensures.rows,
      c.free-free.ensures.count,
      c.if-rows_of-free.true,
    )

pub replace-requires-clause-change : goal.replace-requires-clause-change
replace-requires-clause-change g c =
    let p = c.requires.plan.1 in
    let one = c.requires.stands in (
      p.at,
      to_fell (g.R.Rows.content c.args.rows.now) c.args.desk.now c.args.root.now c.args.format one.0
          one.1 one.2,
      p.possible,
      p.keeps one.0 one.1,
    )

pub replace-requires-clause-room : goal.replace-requires-clause-room
replace-requires-clause-room g c =
    omega (
      arith,
      c.rows_of.ensures.rows,
      c.free-free.ensures.count,
      c.free-free.ensures.few,
      count_by-le-length is_free c.args.desk.now.lives,
      c.if-rows_of-free.false,
    )

pub replace-requires-clause-ready : goal.replace-requires-clause-ready
replace-requires-clause-ready g c =
    record { few = c.free-free.ensures.few; free = c.requires.free }

-- ---- the plan is carried out

module _ (g : Over) (c : goal.After-replace g) (change : List Pair → List Pair)
    (p : IsPlanOf c.args.format (g.R.Rows.content c.args.rows.now) c.args.desk.now
    c.args.root.now c.args.kept.now (plan_of c.args.plan.now) change) where
  after : AfterChange c.args.format (g.R.Rows.content c.args.rows.now)
      (g.R.Rows.content c.replace.new.rows) c.args.desk.now c.replace.new.desk
      c.args.root.now
      c.replace.result change
  after = after_change c.args.format (g.R.Rows.content c.args.rows.now)
      (g.R.Rows.content c.replace.new.rows) c.args.desk.now c.replace.new.desk
      c.args.root.now
      c.replace.result change c.requires.stands p.fits
      (λ m st old. regrown c.args.format (g.R.Rows.content c.args.rows.now)
      (g.R.Rows.content c.replace.new.rows) c.args.desk.now c.replace.new.desk
      (tree_planned c.args.format p.at (plan_of c.args.plan.now))
      (tree c.args.format (change m)) c.replace.result (λ x. times x (used st.tree.placed))
      (λ x. times x (used st.tree.placed)) (rows_planned (plan_of c.args.plan.now))
      (cost c.args.format m (change m))
      (c.replace.ensures.grown p.at
      (to_fell (g.R.Rows.content c.args.rows.now) c.args.desk.now c.args.root.now c.args.format m
      st old) p.possible (p.keeps m st)) (sym (p.is m st)) (λ x. refl) (sym (p.rows m st)))

pub returns-clause-changed : goal.returns-clause-changed
returns-clause-changed g c = λ change p. after g c change p
