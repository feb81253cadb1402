use Rattle.std.proofs.Common.{refl, inl, inr, ◌∙◌, ◌∷◌, ap, arith, length, length-append}
use Rattle.mst_devices.proofs.Putting.{on_err}
use Rattle.mst_lines.proofs.Reading.{all_out, unread, goes_begin, goes_cut, goes_on, goes_end, goes_flush_fails, goes_read_fails}
use Rattle.mst_lines.proofs.reader.Reader.next.Goals as goal

pub loop-pending-init : goal.loop-pending-init
loop-pending-init g c = record {
  source_failures = refl;
  sink_failures = refl;
  fewer = omega arith;
  order = inl refl;
  read = goes_begin g.S.Source.gives g.met.S.Source.gives_more g.W.Sink.takes
      g.met.W.Sink.takes_more g.W.Sink.failures c.args.self.now c.args.source.now c.args.sink.now
      c.args.pending.now c.clear.new.self
      (g.met.S.Source.gives_none c.args.source.now) (g.met.W.Sink.takes_none c.args.sink.now)
      c.clear.ensures;
}

pub returns-then-cut_line-clause-line : goal.returns-then-cut_line-clause-line
returns-then-cut_line-clause-line g c = let i = c.loop-pending.invariant in let e =
    c.cut_line.ensures.cut c.if-cut_line.true in
    λ yes. goes_cut g.S.Source.gives g.met.S.Source.gives_more g.W.Sink.takes
    g.met.W.Sink.takes_more g.W.Sink.failures c.args.self.now c.args.source.now
    c.loop-pending.source c.args.sink.now c.loop-pending.sink c.args.pending.now
    c.loop-pending.pending
    c.loop-pending.line c.cut_line.new.line c.loop-pending.self e.0 c.cut_line.new.self i.read e.1
    e.2 e.3

pub returns-then-cut_line-clause-fewer : goal.returns-then-cut_line-clause-fewer
returns-then-cut_line-clause-fewer g c = let i = c.loop-pending.invariant in let e =
    c.cut_line.ensures.cut c.if-cut_line.true in
    λ yes. omega (arith, i.fewer, ap length e.2, length-append e.0 (10 ∷ c.cut_line.new.self))

pub returns-in_err-flush-clause-err : goal.returns-in_err-flush-clause-err
returns-in_err-flush-clause-err g c = let i = c.loop-pending.invariant in let e =
    c.cut_line.ensures.none c.if-cut_line.false in let f = c.in_err-flush.ensures in
    on_err c.from_residual.result
    (goes_flush_fails g.S.Source.gives g.met.S.Source.gives_more g.W.Sink.takes
    g.met.W.Sink.takes_more g.W.Sink.failures c.args.self.now c.args.source.now
    c.loop-pending.source c.args.sink.now c.loop-pending.sink c.flush.new.sink
    c.args.pending.now c.loop-pending.pending
    c.loop-pending.line c.loop-pending.self i.read e.0 f.err i.sink_failures f.failed)

pub returns-in_err-read_more-clause-err : goal.returns-in_err-read_more-clause-err
returns-in_err-read_more-clause-err g c = let i = c.loop-pending.invariant in let e =
    c.cut_line.ensures.none c.if-cut_line.false in
    on_err c.from_residual-in_err-read_more.result
    (goes_read_fails g.S.Source.gives g.met.S.Source.gives_more g.W.Sink.takes
    g.met.W.Sink.takes_more g.W.Sink.failures c.args.self.now c.args.source.now
    c.loop-pending.source c.read_more.new.source c.args.sink.now c.loop-pending.sink
    c.flush.new.sink c.args.pending.now c.loop-pending.pending
    c.loop-pending.line c.loop-pending.self i.read e.0 c.in_ok-flush.ensures.ok
    c.in_err-read_more.ensures.err)

pub returns-then-not-branch-clause-end : goal.returns-then-not-branch-clause-end
returns-then-not-branch-clause-end g c = let i = c.loop-pending.invariant in let e =
    c.cut_line.ensures.none c.if-cut_line.false in
    λ no. goes_end g.S.Source.gives g.met.S.Source.gives_more g.W.Sink.takes g.met.W.Sink.takes_more
    g.W.Sink.failures c.args.self.now c.args.source.now c.loop-pending.source
    c.read_more.new.source c.args.sink.now c.loop-pending.sink c.flush.new.sink
    c.args.pending.now c.loop-pending.pending
    c.loop-pending.line c.cut_line.new.line c.loop-pending.self c.read_more.new.self i.read e.0 e.2
    c.in_ok-flush.ensures.ok (c.in_ok-read_more.ensures.end c.if-not-branch.true).0
    c.in_ok-read_more.ensures.given

pub loop-pending-smaller : goal.loop-pending-smaller
loop-pending-smaller g c =
    omega (
      arith,
      c.in_ok-read_more.ensures.some c.if-not-branch.false,
      c.in_ok-read_more.ensures.fewer,
    )

pub loop-pending-preserved : goal.loop-pending-preserved
loop-pending-preserved g c = let i = c.loop-pending.invariant in let e =
    c.cut_line.ensures.none c.if-cut_line.false in record {
      source_failures = c.in_ok-read_more.ensures.steady ∙ i.source_failures;
      sink_failures = c.in_ok-flush.ensures.steady ∙ i.sink_failures;
      fewer = omega (arith, c.in_ok-read_more.ensures.fewer, i.fewer);
      order =
          inr (
            all_out g.S.Source.gives g.met.S.Source.gives_more g.W.Sink.takes
                g.met.W.Sink.takes_more
                g.W.Sink.failures c.args.sink.now c.loop-pending.sink c.flush.new.sink
                c.args.pending.now
                c.loop-pending.pending c.loop-pending.invariant.read.puts c.in_ok-flush.ensures.ok,
            c.in_ok-flush.ensures.empty,
          );
      read = goes_on g.S.Source.gives g.met.S.Source.gives_more g.W.Sink.takes
          g.met.W.Sink.takes_more
          g.W.Sink.failures c.args.self.now c.args.source.now c.loop-pending.source
          c.read_more.new.source c.args.sink.now c.loop-pending.sink c.flush.new.sink
          c.args.pending.now
          c.loop-pending.pending c.flush.new.self
          c.loop-pending.line c.cut_line.new.line c.loop-pending.self c.read_more.new.self i.read
          e.0
          e.2 c.in_ok-flush.ensures.ok c.in_ok-flush.ensures.empty c.in_ok-read_more.ensures.given;
    }

pub returns-then-cut_line-clause-order : goal.returns-then-cut_line-clause-order
returns-then-cut_line-clause-order g c = c.loop-pending.invariant.order

pub returns-in_err-flush-clause-writes_first : goal.returns-in_err-flush-clause-writes_first
returns-in_err-flush-clause-writes_first g c =
    on_err c.from_residual.result
    (λ failed. unread c.loop-pending.pending c.loop-pending.invariant.order
    c.in_err-flush.ensures.some)

pub returns-in_err-flush-clause-reads_last : goal.returns-in_err-flush-clause-reads_last
returns-in_err-flush-clause-reads_last g c =
    on_err c.from_residual.result
    (λ failed. absurd (omega (arith, failed, c.loop-pending.invariant.source_failures)))

pub returns-in_err-read_more-clause-writes_first : goal.returns-in_err-read_more-clause-writes_first
returns-in_err-read_more-clause-writes_first g c = on_err c.from_residual-in_err-read_more.result
    (λ failed. absurd
    (omega (arith, failed, c.in_ok-flush.ensures.steady, c.loop-pending.invariant.sink_failures)))

pub returns-in_err-read_more-clause-reads_last : goal.returns-in_err-read_more-clause-reads_last
returns-in_err-read_more-clause-reads_last g c = on_err c.from_residual-in_err-read_more.result
    (λ failed. (
      all_out g.S.Source.gives g.met.S.Source.gives_more g.W.Sink.takes
          g.met.W.Sink.takes_more g.W.Sink.failures c.args.sink.now c.loop-pending.sink
          c.flush.new.sink
          c.args.pending.now c.loop-pending.pending c.loop-pending.invariant.read.puts
          c.in_ok-flush.ensures.ok,
      c.in_ok-flush.ensures.empty,
    ))

pub returns-then-not-branch-clause-order : goal.returns-then-not-branch-clause-order
returns-then-not-branch-clause-order g c =
    inr (
      all_out g.S.Source.gives g.met.S.Source.gives_more g.W.Sink.takes g.met.W.Sink.takes_more
          g.W.Sink.failures c.args.sink.now c.loop-pending.sink c.flush.new.sink c.args.pending.now
          c.loop-pending.pending c.loop-pending.invariant.read.puts c.in_ok-flush.ensures.ok,
      c.in_ok-flush.ensures.empty,
    )
