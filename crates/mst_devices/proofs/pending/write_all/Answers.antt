use Rattle.std.proofs.lemmas.Grind.{common_steps}
use Rattle.std.proofs.Common.{◌≡◌, ◌≤◌, ℕ, List, ◌∙◌, arith, length, length-drop, drop, take, subst, ap, rules}
use Rattle.mst_devices.proofs.Putting.{on_err, stopped, went_on}
use Rattle.mst_devices.proofs.pending.write_all.Goals as goal

pub returns-in_err-at-clause-err : goal.returns-in_err-at-clause-err
returns-in_err-at-clause-err g c = on_err c.from_residual.result
    (stopped g.W.Sink.takes g.met.W.Sink.takes_more c.args.sink.now c.loop-at.sink c.write.new.self
    c.args.bytes.now c.loop-at.at c.loop-at.invariant.taken c.in_err-at.ensures.err)

pub loop-at-preserved : goal.loop-at-preserved
loop-at-preserved g c = let e = c.in_ok-at.ensures.ok in let d : c.split_at.result.1.now ≡ drop
    c.loop-at.at c.args.bytes.now = search rules in record {
      taken = went_on g.W.Sink.takes g.met.W.Sink.takes_more c.args.sink.now c.loop-at.sink
          c.write.new.self c.args.bytes.now c.loop-at.at c.in_ok-at.field-0
          c.loop-at.invariant.taken
          (subst (λ (l : List ℕ). g.W.Sink.takes c.loop-at.sink (take c.in_ok-at.field-0 l)
          c.write.new.self) d e.taken);
      failures = c.in_ok-at.ensures.steady ∙ c.loop-at.invariant.failures;
      within = let w = subst (λ (l : List ℕ). c.in_ok-at.field-0 ≤ length l) d e.within in let l =
          c.loop-at.invariant.within in omega (arith, length-drop c.loop-at.at c.args.bytes.now);
    }

pub loop-at-init : goal.loop-at-init
loop-at-init g c = search rules

pub split_at-requires : goal.split_at-requires
split_at-requires g c = search rules

pub write-requires-clause-room : goal.write-requires-clause-room
write-requires-clause-room g c = search rules

pub write-requires-clause-few : goal.write-requires-clause-few
write-requires-clause-few g c = search rules

pub returns-in_err-at-clause-ok : goal.returns-in_err-at-clause-ok
returns-in_err-at-clause-ok g c = search rules

pub returns-in_err-at-clause-steady : goal.returns-in_err-at-clause-steady
returns-in_err-at-clause-steady g c = search rules

pub returns-in_err-at-clause-failed : goal.returns-in_err-at-clause-failed
returns-in_err-at-clause-failed g c = search rules

pub overflow_add-at : goal.overflow_add-at
overflow_add-at g c = search rules

pub loop-at-smaller : goal.loop-at-smaller
loop-at-smaller g c = search rules

pub returns-clause-ok : goal.returns-clause-ok
returns-clause-ok g c = grind (arith, common_steps)

pub returns-clause-steady : goal.returns-clause-steady
returns-clause-steady g c = search rules

pub returns-clause-err : goal.returns-clause-err
returns-clause-err g c = search rules

pub returns-clause-failed : goal.returns-clause-failed
returns-clause-failed g c = search rules

pub returns-in_err-at-clause-some : goal.returns-in_err-at-clause-some
returns-in_err-at-clause-some g c =
    on_err c.from_residual.result
    (λ none. absurd (omega (arith, c.loop-at-test.true, ap length none)))
