use Rattle.mst_script.proofs.Names.{rules, Serves, map_ok, map_err}
use Rattle.mst_lines.proofs.Driving.{not_both, nothing_closed, answered_not_closed}
use Rattle.mst_script.proofs.script.finish.Goals as goal

pub returns-then-is_empty-clause-ok : goal.returns-then-is_empty-clause-ok
returns-then-is_empty-clause-ok g c = map_ok c.flush.result c.flush.ensures.ok (λ taken.
    nothing_closed g.W.Sink.takes (Serves c.args.store.now) c.args.line.now c.args.sink.now
    c.flush.new.sink c.args.pending.now c.args.passes.now
    (c.is_empty.ensures.0 c.if-is_empty.true) taken)

pub returns-clause-err : goal.returns-clause-err
returns-clause-err g c = map_err c.flush-2.result c.flush-2.ensures.err (λ broke.
    answered_not_closed g.W.Sink.takes g.met.W.Sink.takes_more (Serves c.args.store.now)
    c.args.line.now c.args.sink.now c.answer_line.new.sink c.flush-2.new.sink c.args.pending.now
    c.answer_line.new.pending
    c.args.passes.now c.answer_line.new.passes
    (λ e. not_both c.is_empty.result (c.is_empty.ensures.1 e) c.if-is_empty.false)
    c.in_ok-answer_line.ensures.ok broke)

pub returns-then-is_empty-clause-whole : goal.returns-then-is_empty-clause-whole
returns-then-is_empty-clause-whole g c = search rules

pub returns-then-is_empty-clause-steady : goal.returns-then-is_empty-clause-steady
returns-then-is_empty-clause-steady g c = search rules

pub returns-then-is_empty-clause-err : goal.returns-then-is_empty-clause-err
returns-then-is_empty-clause-err g c = search rules

pub returns-then-is_empty-clause-failed : goal.returns-then-is_empty-clause-failed
returns-then-is_empty-clause-failed g c = search rules

pub answer_line-requires-clause-few : goal.answer_line-requires-clause-few
answer_line-requires-clause-few g c = search rules

pub answer_line-requires-clause-whole : goal.answer_line-requires-clause-whole
answer_line-requires-clause-whole g c = search rules

pub returns-in_err-answer_line-clause-whole : goal.returns-in_err-answer_line-clause-whole
returns-in_err-answer_line-clause-whole g c = search rules

pub returns-in_err-answer_line-clause-ok : goal.returns-in_err-answer_line-clause-ok
returns-in_err-answer_line-clause-ok g c = search rules

pub returns-in_err-answer_line-clause-steady : goal.returns-in_err-answer_line-clause-steady
returns-in_err-answer_line-clause-steady g c = search rules

pub returns-in_err-answer_line-clause-err : goal.returns-in_err-answer_line-clause-err
returns-in_err-answer_line-clause-err g c = search rules

pub returns-in_err-answer_line-clause-failed : goal.returns-in_err-answer_line-clause-failed
returns-in_err-answer_line-clause-failed g c = search rules

pub returns-clause-whole : goal.returns-clause-whole
returns-clause-whole g c = search rules

pub returns-clause-ok : goal.returns-clause-ok
returns-clause-ok g c = search rules

pub returns-clause-steady : goal.returns-clause-steady
returns-clause-steady g c = search rules

pub returns-clause-failed : goal.returns-clause-failed
returns-clause-failed g c = search rules
