use Rattle.mst_sharded_script.proofs.Names.{sym, ap, ◌∙◌, Free, Pinned, text_of}
use Rattle.mst_sharded_script.proofs.Stepping.{unpin_step, pinned_step}
use Rattle.mst_sharded_script.proofs.serve.step_pinned.Goals as goal

pub returns : goal.returns
returns g c =
    pinned_step c.args.command.now c.args.snapshot c.args.spare (text_of c.recall-answer.result)
    c.pinned.result (sym c.is_unpin.ensures ∙ c.if-is_unpin.false)
    (c.pinned.ensures ∙ ap (λ y. Pinned y c.args.spare) c.recall-answer.ensures.same)
    c.recall-answer.ensures.found

pub returns-then-is_unpin : goal.returns-then-is_unpin
returns-then-is_unpin g c =
    unpin_step c.args.command.now c.args.snapshot c.args.spare c.free.result
    (sym c.is_unpin.ensures ∙ c.if-is_unpin.true) (c.free.ensures ∙ ap Free c.unpin.ensures)
