use Rattle.mst_command.specs.Recalling.{Recalls}
use Rattle.mst_devices.proofs.Putting.{map_err}
use Rattle.mst_lines.proofs.Driving.{not_both, answered_not_closed}
use Rattle.mst_command.proofs.events.finish.Goals as goal

pub returns-clause-err : goal.returns-clause-err
returns-clause-err g c = map_err c.flush-2.result c.flush-2.ensures.err (λ broke.
    answered_not_closed g.W.Sink.takes g.met.W.Sink.takes_more Recalls c.args.line.now
    c.args.sink.now c.answer_line.new.sink c.flush-2.new.sink c.args.pending.now
    c.answer_line.new.pending
    c.args.replay.now c.answer_line.new.replay
    (λ e. not_both c.is_empty.result (c.is_empty.ensures.1 e) c.if-is_empty.false)
    c.in_ok-answer_line.ensures.ok broke)
