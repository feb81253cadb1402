use Rattle.mst_requests.proofs.Names.{common_steps, refl, ◌≡◌, ◌+◌, ◌++◌, ℕ, List, take, drop, sym, ap, ◌∙◌, subst, rules, arith, length, encode_lower, Puts, Breaks, breaks_more, on_err, puts_then, puts_breaks}
use Rattle.mst_devices.proofs.Putting.{puts_none}
use Rattle.mst_requests.proofs.Digits.{no_digits, digits_parted, digits_more}
use Rattle.mst_requests.proofs.answer.put_digits.Goals as goal

pub loop-at-init : goal.loop-at-init
loop-at-init g c = record {
  within = omega arith;
  failures = refl;
  puts = puts_none g.W.Sink.takes c.args.sink.now c.args.pending.now
      (encode_lower (take 0 c.args.bytes.now)) (g.met.W.Sink.takes_none c.args.sink.now)
      (no_digits c.args.bytes.now);
}

pub returns-in_err-put-clause-err : goal.returns-in_err-put-clause-err
returns-in_err-put-clause-err g c = let at = c.loop-at.at in let bytes = c.args.bytes.now in
    let takes = g.W.Sink.takes in let n = length c.split_at-in-loop-at.result.0.now in
    let is : c.as_slice.result.now ≡ encode_lower (take n (drop at bytes)) = search rules in
    let broke = puts_breaks takes g.met.W.Sink.takes_more c.args.sink.now c.loop-at.sink
    c.put.new.sink c.args.pending.now c.loop-at.pending (encode_lower (take at bytes))
    c.as_slice.result.now c.loop-at.invariant.puts c.in_err-put.ensures.err in
    on_err c.from_residual.result
    (subst (λ (l : List ℕ). Breaks takes c.args.sink.now c.args.pending.now l c.put.new.sink)
    (sym (digits_parted bytes (at + n)))
    (breaks_more takes c.args.sink.now c.put.new.sink c.args.pending.now
    (encode_lower (take (at + n) bytes)) (encode_lower (drop (at + n) bytes))
    (subst (λ (l : List ℕ). Breaks takes c.args.sink.now c.args.pending.now l c.put.new.sink)
    (ap (λ (l : List ℕ). encode_lower (take at bytes) ++ l) is ∙ sym (digits_more bytes at n))
    broke)))

pub loop-at-preserved : goal.loop-at-preserved
loop-at-preserved g c = let at = c.loop-at.at in let bytes = c.args.bytes.now in let takes =
    g.W.Sink.takes in let n = length c.split_at-in-loop-at.result.0.now in
    let is : c.as_slice.result.now ≡ encode_lower (take n (drop at bytes)) =
    search rules in record {
      within = omega arith;
      failures = c.in_ok-put.ensures.steady ∙ c.loop-at.invariant.failures;
      puts =
          subst (λ (l : List ℕ). Puts takes c.args.sink.now c.args.pending.now l c.put.new.sink
          c.put.new.self) (ap (λ (l : List ℕ). encode_lower (take at bytes) ++ l) is
          ∙ sym (digits_more bytes at n))
          (puts_then takes g.met.W.Sink.takes_more c.args.sink.now c.loop-at.sink c.put.new.sink
          c.args.pending.now c.loop-at.pending c.put.new.self (encode_lower (take at bytes))
          c.as_slice.result.now c.loop-at.invariant.puts c.in_ok-put.ensures.ok);
    }

pub split_at-requires : goal.split_at-requires
split_at-requires g c = search rules

pub split_at-requires-in-loop-at : goal.split_at-requires-in-loop-at
split_at-requires-in-loop-at g c = search rules

pub piece_digits-requires : goal.piece_digits-requires
piece_digits-requires g c = search rules

pub as_slice-requires : goal.as_slice-requires
as_slice-requires g c = search rules

pub put-requires : goal.put-requires
put-requires g c = search rules

pub returns-in_err-put-clause-ok : goal.returns-in_err-put-clause-ok
returns-in_err-put-clause-ok g c = search rules

pub returns-in_err-put-clause-steady : goal.returns-in_err-put-clause-steady
returns-in_err-put-clause-steady g c = search rules

pub returns-in_err-put-clause-failed : goal.returns-in_err-put-clause-failed
returns-in_err-put-clause-failed g c = search rules

pub overflow_add-at : goal.overflow_add-at
overflow_add-at g c = search rules

pub loop-at-smaller : goal.loop-at-smaller
loop-at-smaller g c = search rules

pub returns-clause-ok : goal.returns-clause-ok
returns-clause-ok g c = grind (arith, common_steps)

pub returns-clause-steady : goal.returns-clause-steady
returns-clause-steady g c = search rules

pub returns-clause-err : goal.returns-clause-err
returns-clause-err g c = search rules

pub returns-clause-failed : goal.returns-clause-failed
returns-clause-failed g c = search rules
