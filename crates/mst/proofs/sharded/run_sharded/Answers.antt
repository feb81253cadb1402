use Rattle.std.proofs.Common.{Err, ap, ◌∙◌}
use Rattle.mst.proofs.Opening.{broke_sharded}
use Rattle.mst.proofs.sharded.run_sharded.Goals as goal

pub returns-in-Err-Device-clause-stopped : goal.returns-in-Err-Device-clause-stopped
returns-in-Err-Device-clause-stopped g c = λ is.
    broke_sharded g.S.Source.gives g.W.Sink.takes g.W.Sink.failures c.args.shape
    c.args.splits.now c.in_ok-script.script c.args.source.now c.run.new.source c.args.out.now
    c.run.new.sink c.in_ok-script.ensures.opened
    (c.run.ensures.stopped (c.in-Err-Device.is ∙ ap Err c.in-Err-Device.field-0-is))

pub returns-in-Err-Device-clause-shape : goal.returns-in-Err-Device-clause-shape
returns-in-Err-Device-clause-shape g c =
    (λ is fits. cc, λ bad. absurd (bad c.in_ok-script.ensures.opened.fits))
