use Rattle.mst_sharded_script.proofs.Names.{ℕ, sym, subst, ◌∙◌, text_of, Acts}
use Rattle.mst_sharded_script.proofs.Stepping.{migration_step, acts_step}
use Rattle.mst_sharded_script.proofs.serve.step_free.Goals as goal

pub returns-in-Some-clause-step : goal.returns-in-Some-clause-step
returns-in-Some-clause-step g c =
    migration_step c.args.command.now c.in-Some.to c.args.layout.now c.args.writer c.args.reader
    (text_of c.migrate.result.answer) c.migrate.result.writer c.migrate.result.pass
    c.migrate.result.new (sym c.in-Some.is ∙ c.migration_to.ensures) c.migrate.ensures.migrates

pub returns-in-None-clause-step : goal.returns-in-None-clause-step
returns-in-None-clause-step g c =
    acts_step c.args.command.now c.args.layout.now c.args.writer c.args.reader
    (text_of c.act-answer.result.0) c.act-answer.result.1 c.act-answer.result.2
    (sym c.in-None.is ∙ c.migration_to.ensures)
    (subst (λ (n : ℕ). Acts c.args.command.now n c.args.writer c.args.reader
    (text_of c.act-answer.result.0) c.act-answer.result.1 c.act-answer.result.2)
    c.before-in-None.ensures.before c.act-answer.ensures)
