use Rattle.mst_sharded_script.proofs.Names.{ℕ, List, [], refl, sym, subst, Serves, map_ok}
use Rattle.mst_devices.proofs.Putting.{map_err}
use Rattle.mst_lines.proofs.Driving.{not_both, nothing_closed, answered_not_closed}
use Rattle.mst_sharded_script.proofs.script.finish.Goals as goal

pub returns-then-is_empty-clause-ok : goal.returns-then-is_empty-clause-ok
returns-then-is_empty-clause-ok g c = map_ok c.flush.result c.flush.ensures.ok (λ taken. (
  c.args.script,
  nothing_closed g.W.Sink.takes Serves c.args.line.now c.args.sink.now c.flush.new.sink
      c.args.pending.now c.args.script (c.is_empty.ensures.0 c.if-is_empty.true) taken,
))

pub returns-in-Ok-clause-ok : goal.returns-in-Ok-clause-ok
returns-in-Ok-clause-ok g c = map_ok c.flush-in-Ok.result c.flush-in-Ok.ensures.ok (λ taken.
    let an = c.in-Ok.ensures.ok in (
      c.in-Ok.last,
      record {
        text = an.text;
        rests = record {
          empty =
              λ e. absurd (not_both c.is_empty.result (c.is_empty.ensures.1 e) c.if-is_empty.false);
          reply = λ _. an.reply;
        };
        taken =
            subst (λ (l : List ℕ). g.W.Sink.takes c.args.sink.now l c.flush-in-Ok.new.sink)
            (sym an.puts.rest)
            (g.met.W.Sink.takes_more c.args.sink.now c.answer_line.new.sink c.flush-in-Ok.new.sink
            an.puts.taken c.answer_line.new.pending an.puts.takes_them taken);
      },
    ))

pub returns-in-Ok-clause-err : goal.returns-in-Ok-clause-err
returns-in-Ok-clause-err g c = map_err c.flush-in-Ok.result c.flush-in-Ok.ensures.err (λ broke. (
  c.in-Ok.last,
  answered_not_closed g.W.Sink.takes g.met.W.Sink.takes_more Serves c.args.line.now
      c.args.sink.now c.answer_line.new.sink c.flush-in-Ok.new.sink c.args.pending.now
      c.answer_line.new.pending c.args.script c.in-Ok.last
      (λ e. not_both c.is_empty.result (c.is_empty.ensures.1 e) c.if-is_empty.false)
      c.in-Ok.ensures.ok broke,
))

pub returns-then-is_empty-clause-err : goal.returns-then-is_empty-clause-err
returns-then-is_empty-clause-err g c = map_err c.flush.result c.flush.ensures.err (λ broke. (
  c.args.script,
  record {
    text = [];
    rests = record {
      empty = λ e. (refl, refl);
      reply = λ some. absurd (some (c.is_empty.ensures.0 c.if-is_empty.true));
    };
    breaks = broke;
  },
))

pub returns-in-Err-clause-err : goal.returns-in-Err-clause-err
returns-in-Err-clause-err g c =
    let lost = c.in-Err.ensures.err in (
      lost.0,
      record {
        text = lost.1.text;
        rests = record {
          empty =
              λ e. absurd (not_both c.is_empty.result (c.is_empty.ensures.1 e) c.if-is_empty.false);
          reply = λ _. lost.1.reply;
        };
        breaks = lost.1.breaks;
      },
    )
