use Rattle.mst_script.proofs.Names.{rules, refl, ◌∙◌, Serves, map_ok}
use Rattle.mst_devices.proofs.Putting.{on_err, map_both_err}
use Rattle.mst_lines.proofs.Driving.{reached_none, reached_line, lost_stopped, fails_stopped, closed_ran, closed_stopped}
use Rattle.mst_script.proofs.script.drive.Goals as goal

pub loop-sink-init : goal.loop-sink-init
loop-sink-init g c = record {
  source_failures = refl;
  sink_failures = refl;
  whole = c.requires.whole;
  reached = reached_none g.S.Source.gives g.met.S.Source.gives_more g.W.Sink.takes
      g.met.W.Sink.takes_more g.W.Sink.failures (Serves c.args.store.now) c.args.source.now
      c.args.sink.now c.args.passes.now c.args.reader.now c.args.pending.now
      (g.met.S.Source.gives_none c.args.source.now) (g.met.W.Sink.takes_none c.args.sink.now)
      c.requires.reader c.requires.pending;
}

pub returns-in_err-next-clause-err : goal.returns-in_err-next-clause-err
returns-in_err-next-clause-err g c = let l = c.loop-sink in let i = l.invariant in
    on_err c.from_residual.result
    (fails_stopped g.S.Source.gives g.met.S.Source.gives_more g.W.Sink.takes g.met.W.Sink.takes_more
    g.W.Sink.failures (Serves c.args.store.now) c.args.source.now l.source c.next.new.source
    c.args.sink.now l.sink c.next.new.sink c.args.passes.now l.passes
    l.reader l.pending i.reached c.in_err-next.ensures.err i.sink_failures)

pub loop-sink-preserved : goal.loop-sink-preserved
loop-sink-preserved g c = let l = c.loop-sink in let i = l.invariant in record {
  source_failures = c.in_ok-next.ensures.steady_source ∙ i.source_failures;
  sink_failures = c.in_ok-answer_line.ensures.steady ∙ c.in_ok-next.ensures.steady_sink
      ∙ i.sink_failures;
  whole = c.answer_line.ensures.whole;
  reached = reached_line g.S.Source.gives g.met.S.Source.gives_more g.W.Sink.takes
      g.met.W.Sink.takes_more g.W.Sink.failures (Serves c.args.store.now) c.args.source.now l.source
      c.next.new.source c.args.sink.now l.sink c.next.new.sink c.answer_line.new.sink
      c.args.passes.now l.passes c.answer_line.new.passes
      l.reader l.pending c.next.new.pending c.answer_line.new.pending c.next.new.self
      c.next.new.line i.reached (c.in_ok-next.ensures.line c.if-branch.true)
      c.in_ok-answer_line.ensures.ok;
}

pub returns-in_err-answer_line-clause-err : goal.returns-in_err-answer_line-clause-err
returns-in_err-answer_line-clause-err g c = let l = c.loop-sink in let i = l.invariant in
    on_err c.from_residual-in_err-answer_line.result
    (lost_stopped g.S.Source.gives g.met.S.Source.gives_more g.W.Sink.takes g.met.W.Sink.takes_more
    g.W.Sink.failures (Serves c.args.store.now) c.args.source.now l.source c.next.new.source
    c.args.sink.now l.sink c.next.new.sink c.answer_line.new.sink c.args.passes.now l.passes
    c.answer_line.new.passes
    l.reader l.pending c.next.new.pending c.next.new.self c.next.new.line i.reached
    (c.in_ok-next.ensures.line c.if-branch.true) c.in_err-answer_line.ensures.err
    (c.in_ok-next.ensures.steady_sink ∙ i.sink_failures) c.in_err-answer_line.ensures.failed)

pub returns-clause-ok : goal.returns-clause-ok
returns-clause-ok g c = let l = c.loop-sink in let i = l.invariant in
    map_ok c.finish.result c.finish.ensures.ok (λ closed.
    closed_ran g.S.Source.gives g.met.S.Source.gives_more g.W.Sink.takes g.met.W.Sink.takes_more
    g.W.Sink.failures (Serves c.args.store.now) c.args.source.now l.source c.next.new.source
    c.args.sink.now l.sink c.next.new.sink c.finish.new.sink c.args.passes.now l.passes
    c.finish.new.passes
    l.reader l.pending c.next.new.pending c.next.new.line i.reached
    (c.in_ok-next.ensures.end c.if-branch.false)
    (c.in_ok-next.ensures.empty c.if-branch.false).0 closed)

pub returns-clause-err : goal.returns-clause-err
returns-clause-err g c = let l = c.loop-sink in let i = l.invariant in
    map_both_err c.finish.result c.finish.ensures.err c.finish.ensures.failed (λ closed failed.
    closed_stopped g.S.Source.gives g.met.S.Source.gives_more g.W.Sink.takes g.met.W.Sink.takes_more
    g.W.Sink.failures (Serves c.args.store.now) c.args.source.now l.source c.next.new.source
    c.args.sink.now l.sink c.next.new.sink c.finish.new.sink c.args.passes.now l.passes
    c.finish.new.passes
    l.reader l.pending c.next.new.pending c.next.new.line i.reached
    (c.in_ok-next.ensures.end c.if-branch.false)
    (c.in_ok-next.ensures.empty c.if-branch.false).0 closed
    (c.in_ok-next.ensures.steady_sink ∙ i.sink_failures) failed)

pub next-requires-clause-source : goal.next-requires-clause-source
next-requires-clause-source g c = search rules

pub next-requires-clause-sink : goal.next-requires-clause-sink
next-requires-clause-sink g c = search rules

pub returns-in_err-next-clause-whole : goal.returns-in_err-next-clause-whole
returns-in_err-next-clause-whole g c = search rules

pub returns-in_err-next-clause-ok : goal.returns-in_err-next-clause-ok
returns-in_err-next-clause-ok g c = search rules

pub returns-in_err-next-clause-ended : goal.returns-in_err-next-clause-ended
returns-in_err-next-clause-ended g c = search rules

pub returns-in_err-next-clause-steady_source : goal.returns-in_err-next-clause-steady_source
returns-in_err-next-clause-steady_source g c = search rules

pub returns-in_err-next-clause-steady_sink : goal.returns-in_err-next-clause-steady_sink
returns-in_err-next-clause-steady_sink g c = search rules

pub returns-in_err-next-clause-failed : goal.returns-in_err-next-clause-failed
returns-in_err-next-clause-failed g c = search rules

pub answer_line-requires-clause-few : goal.answer_line-requires-clause-few
answer_line-requires-clause-few g c = search rules

pub answer_line-requires-clause-whole : goal.answer_line-requires-clause-whole
answer_line-requires-clause-whole g c = search rules

pub loop-sink-smaller : goal.loop-sink-smaller
loop-sink-smaller g c = search rules

pub returns-in_err-answer_line-clause-whole : goal.returns-in_err-answer_line-clause-whole
returns-in_err-answer_line-clause-whole g c = search rules

pub returns-in_err-answer_line-clause-ok : goal.returns-in_err-answer_line-clause-ok
returns-in_err-answer_line-clause-ok g c = search rules

pub returns-in_err-answer_line-clause-ended : goal.returns-in_err-answer_line-clause-ended
returns-in_err-answer_line-clause-ended g c = search rules

pub returns-in_err-answer_line-clause-steady_source :
    goal.returns-in_err-answer_line-clause-steady_source
returns-in_err-answer_line-clause-steady_source g c = search rules

pub returns-in_err-answer_line-clause-steady_sink :
    goal.returns-in_err-answer_line-clause-steady_sink
returns-in_err-answer_line-clause-steady_sink g c = search rules

pub returns-in_err-answer_line-clause-failed : goal.returns-in_err-answer_line-clause-failed
returns-in_err-answer_line-clause-failed g c = search rules

pub finish-requires-clause-few : goal.finish-requires-clause-few
finish-requires-clause-few g c = search rules

pub finish-requires-clause-whole : goal.finish-requires-clause-whole
finish-requires-clause-whole g c = search rules

pub returns-clause-whole : goal.returns-clause-whole
returns-clause-whole g c = search rules

pub returns-clause-ended : goal.returns-clause-ended
returns-clause-ended g c = search rules

pub returns-clause-steady_source : goal.returns-clause-steady_source
returns-clause-steady_source g c = search rules

pub returns-clause-steady_sink : goal.returns-clause-steady_sink
returns-clause-steady_sink g c = search rules

pub returns-clause-failed : goal.returns-clause-failed
returns-clause-failed g c = search rules
