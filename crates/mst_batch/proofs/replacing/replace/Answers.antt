use Rattle.mst_batch.proofs.Names.{ap, refl, sym, subst, Content, times, used, Grown, plan_of, rows_planned, rows_kept, tree_planned}
use Rattle.mst_batch.proofs.Replaced.{still, replaced}
use Rattle.mst_batch.proofs.replacing.replace.Goals as goal

pub sow_plan-new-requires-clause-plan : goal.sow_plan-new-requires-clause-plan
sow_plan-new-requires-clause-plan g c = (c.requires.change.0, c.requires.change.2)

pub fell_at-requires : goal.fell_at-requires
fell_at-requires g c =
    let one = c.requires.change in
    record {
      tree = still c.args.format (g.R.Rows.content c.args.rows.now)
          (g.R.Rows.content c.sow_plan-new.new.rows) c.args.desk.now c.sow_plan-new.new.desk
          c.args.root.now.link _ _ _ _ one.1 (c.sow_plan-new.ensures.sown one.0 one.2);
    }

pub returns-clause-grown : goal.returns-clause-grown
returns-clause-grown g c = λ at old plan keeps.
    let content = g.R.Rows.content c.args.rows.now in
    let format = c.args.format in
    let y = plan_of c.args.plan.now in
    let q = c.sow_plan-new.ensures.sown at plan in
    let made =
    replaced format content (g.R.Rows.content c.sow_plan-new.new.rows) c.args.desk.now
    c.sow_plan-new.new.desk
    c.args.root.now.link (tree_planned format at y) c.sow_plan-new.result (rows_kept at y)
    (rows_planned y) old q at c.args.kept.now y refl plan.once keeps c.fell_at.new.desk
    (c.fell_at.ensures.fells
    (still format content (g.R.Rows.content c.sow_plan-new.new.rows) c.args.desk.now
    c.sow_plan-new.new.desk
    c.args.root.now.link (tree_planned format at y) c.sow_plan-new.result (rows_kept at y)
    (rows_planned y) old q)) in
    subst (λ (x : Content). Grown format content x c.args.desk.now c.fell_at.new.desk
    (tree_planned format at y) c.sow_plan-new.result (λ z. times z (used old.placed))
    (rows_planned y))
    (sym (ap g.R.Rows.content c.fell_at.ensures.same)) made
