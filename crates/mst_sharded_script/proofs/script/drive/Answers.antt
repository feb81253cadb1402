use Rattle.mst_sharded_script.proofs.Names.{rules, refl, ◌∙◌, Serves, on_err, map_ok}
use Rattle.mst_devices.proofs.Putting.{map_both_err}
use Rattle.mst_lines.proofs.Driving.{reached_none, reached_line, lost_stopped, fails_stopped, closed_ran, closed_stopped}
use Rattle.mst_sharded_script.proofs.script.drive.Goals as goal

pub loop-script-init : goal.loop-script-init
loop-script-init g c = record {
  source_failures = refl;
  sink_failures = refl;
  reached = reached_none g.S.Source.gives g.met.S.Source.gives_more g.W.Sink.takes
      g.met.W.Sink.takes_more g.W.Sink.failures Serves c.args.source.now c.args.sink.now
      c.args.script c.args.reader.now c.args.pending.now
      (g.met.S.Source.gives_none c.args.source.now) (g.met.W.Sink.takes_none c.args.sink.now)
      c.requires.reader c.requires.pending;
}

pub returns-in_err-next-clause-err : goal.returns-in_err-next-clause-err
returns-in_err-next-clause-err g c = let l = c.loop-script in let i = l.invariant in
    on_err c.from_residual.result (
      l.script,
      fails_stopped g.S.Source.gives g.met.S.Source.gives_more g.W.Sink.takes
          g.met.W.Sink.takes_more g.W.Sink.failures Serves c.args.source.now l.source
          c.next.new.source c.args.sink.now l.sink c.next.new.sink c.args.script l.script l.reader
          l.pending i.reached c.in_err-next.ensures.err i.sink_failures,
    )

pub loop-script-preserved : goal.loop-script-preserved
loop-script-preserved g c = let l = c.loop-script in let i = l.invariant in record {
  source_failures = c.in_ok-next.ensures.steady_source ∙ i.source_failures;
  sink_failures = c.in_ok-later.ensures.steady ∙ c.in_ok-next.ensures.steady_sink
      ∙ i.sink_failures;
  reached = reached_line g.S.Source.gives g.met.S.Source.gives_more g.W.Sink.takes
      g.met.W.Sink.takes_more g.W.Sink.failures Serves c.args.source.now l.source
      c.next.new.source c.args.sink.now l.sink c.next.new.sink c.answer_line.new.sink
      c.args.script l.script c.in_ok-later.later l.reader l.pending c.next.new.pending
      c.answer_line.new.pending c.next.new.self c.next.new.line i.reached
      (c.in_ok-next.ensures.line c.if-branch.true) c.in_ok-later.ensures.ok;
}

pub returns-in_err-later-clause-err : goal.returns-in_err-later-clause-err
returns-in_err-later-clause-err g c = let l = c.loop-script in let i = l.invariant in
    let lost = c.in_err-later.ensures.err in
    on_err c.from_residual-in_err-later.result (
      lost.0,
      lost_stopped g.S.Source.gives g.met.S.Source.gives_more g.W.Sink.takes
          g.met.W.Sink.takes_more g.W.Sink.failures Serves c.args.source.now l.source
          c.next.new.source c.args.sink.now l.sink c.next.new.sink c.answer_line.new.sink
          c.args.script l.script lost.0 l.reader l.pending c.next.new.pending c.next.new.self
          c.next.new.line i.reached (c.in_ok-next.ensures.line c.if-branch.true) lost.1
          (c.in_ok-next.ensures.steady_sink ∙ i.sink_failures)
          c.in_err-later.ensures.failed,
    )

pub returns-clause-ok : goal.returns-clause-ok
returns-clause-ok g c = let l = c.loop-script in let i = l.invariant in
    map_ok c.finish.result c.finish.ensures.ok (λ closed. (
      closed.0,
      closed_ran g.S.Source.gives g.met.S.Source.gives_more g.W.Sink.takes g.met.W.Sink.takes_more
          g.W.Sink.failures Serves c.args.source.now l.source c.next.new.source c.args.sink.now
          l.sink c.next.new.sink c.finish.new.sink c.args.script l.script closed.0 l.reader
          l.pending c.next.new.pending c.next.new.line i.reached
          (c.in_ok-next.ensures.end c.if-branch.false)
          (c.in_ok-next.ensures.empty c.if-branch.false).0 closed.1,
    ))

pub returns-clause-err : goal.returns-clause-err
returns-clause-err g c = let l = c.loop-script in let i = l.invariant in
    map_both_err c.finish.result c.finish.ensures.err c.finish.ensures.failed (λ closed failed. (
      closed.0,
      closed_stopped g.S.Source.gives g.met.S.Source.gives_more g.W.Sink.takes
          g.met.W.Sink.takes_more g.W.Sink.failures Serves c.args.source.now l.source
          c.next.new.source c.args.sink.now l.sink c.next.new.sink c.finish.new.sink c.args.script
          l.script closed.0 l.reader l.pending c.next.new.pending c.next.new.line i.reached
          (c.in_ok-next.ensures.end c.if-branch.false)
          (c.in_ok-next.ensures.empty c.if-branch.false).0 closed.1
          (c.in_ok-next.ensures.steady_sink ∙ i.sink_failures) failed,
    ))

pub next-requires-clause-source : goal.next-requires-clause-source
next-requires-clause-source g c = search rules

pub next-requires-clause-sink : goal.next-requires-clause-sink
next-requires-clause-sink g c = search rules

pub returns-in_err-next-clause-ok : goal.returns-in_err-next-clause-ok
returns-in_err-next-clause-ok g c = search rules

pub returns-in_err-next-clause-ended : goal.returns-in_err-next-clause-ended
returns-in_err-next-clause-ended g c = search rules

pub returns-in_err-next-clause-steady_source : goal.returns-in_err-next-clause-steady_source
returns-in_err-next-clause-steady_source g c = search rules

pub returns-in_err-next-clause-steady_sink : goal.returns-in_err-next-clause-steady_sink
returns-in_err-next-clause-steady_sink g c = search rules

pub returns-in_err-next-clause-failed : goal.returns-in_err-next-clause-failed
returns-in_err-next-clause-failed g c = search rules

pub answer_line-requires : goal.answer_line-requires
answer_line-requires g c = search rules

pub loop-script-smaller : goal.loop-script-smaller
loop-script-smaller g c = c.in_ok-next.ensures.fewer c.if-branch.true

pub returns-in_err-later-clause-ok : goal.returns-in_err-later-clause-ok
returns-in_err-later-clause-ok g c = search rules

pub returns-in_err-later-clause-ended : goal.returns-in_err-later-clause-ended
returns-in_err-later-clause-ended g c = search rules

pub returns-in_err-later-clause-steady_source : goal.returns-in_err-later-clause-steady_source
returns-in_err-later-clause-steady_source g c = search rules

pub returns-in_err-later-clause-steady_sink : goal.returns-in_err-later-clause-steady_sink
returns-in_err-later-clause-steady_sink g c = search rules

pub returns-in_err-later-clause-failed : goal.returns-in_err-later-clause-failed
returns-in_err-later-clause-failed g c = search rules

pub finish-requires : goal.finish-requires
finish-requires g c = search rules

pub returns-clause-ended : goal.returns-clause-ended
returns-clause-ended g c = search rules

pub returns-clause-steady_source : goal.returns-clause-steady_source
returns-clause-steady_source g c = search rules

pub returns-clause-steady_sink : goal.returns-clause-steady_sink
returns-clause-steady_sink g c = search rules

pub returns-clause-failed : goal.returns-clause-failed
returns-clause-failed g c = search rules
