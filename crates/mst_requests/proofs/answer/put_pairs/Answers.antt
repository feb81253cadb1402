use Rattle.mst_requests.proofs.Names.{common_steps, ◌≡◌, ◌+◌, ◌++◌, ℕ, List, get_or, take, drop, sym, ap, ◌∙◌, subst, rules, arith, Puts, Breaks, line_of, pair_words, pair_lines, breaks_more, on_err, puts_then, puts_breaks}
use Rattle.mst_requests.proofs.Pairs.{one_more, parted}
use Rattle.mst_requests.proofs.answer.put_pairs.Goals as goal

pub returns-in_err-put-clause-err : goal.returns-in_err-put-clause-err
returns-in_err-put-clause-err g c = let i = c.loop-key.key-index in let ps = c.args.pairs.now in
    let d = c.loop-key-item.result in let takes = g.W.Sink.takes in
    let is : c.as_slice.result.now ≡ line_of (pair_words (get_or ps i d)) = search rules in
    let broke = puts_breaks takes g.met.W.Sink.takes_more c.args.sink.now c.loop-key.sink
    c.put.new.sink c.args.pending.now c.loop-key.pending (pair_lines (take i ps))
    c.as_slice.result.now c.loop-key.invariant.puts c.in_err-put.ensures.err in
    on_err c.from_residual.result
    (subst (λ (l : List ℕ). Breaks takes c.args.sink.now c.args.pending.now l c.put.new.sink)
    (sym (parted ps (i + 1)))
    (breaks_more takes c.args.sink.now c.put.new.sink c.args.pending.now
    (pair_lines (take (i + 1) ps)) (pair_lines (drop (i + 1) ps))
    (subst (λ (l : List ℕ). Breaks takes c.args.sink.now c.args.pending.now l c.put.new.sink)
    (ap (λ (l : List ℕ). pair_lines (take i ps) ++ l) is ∙ sym (one_more ps i d (omega arith)))
    broke)))

pub loop-key-preserved : goal.loop-key-preserved
loop-key-preserved g c = let i = c.loop-key.key-index in let ps = c.args.pairs.now in let d =
    c.loop-key-item.result in let takes = g.W.Sink.takes in
    let is : c.as_slice.result.now ≡ line_of (pair_words (get_or ps i d)) = search rules in record {
      failures = c.in_ok-put.ensures.steady ∙ c.loop-key.invariant.failures;
      puts =
          subst (λ (l : List ℕ). Puts takes c.args.sink.now c.args.pending.now l c.put.new.sink
          c.put.new.self) (ap (λ (l : List ℕ). pair_lines (take i ps) ++ l) is
          ∙ sym (one_more ps i d (omega arith)))
          (puts_then takes g.met.W.Sink.takes_more c.args.sink.now c.loop-key.sink c.put.new.sink
          c.args.pending.now c.loop-key.pending c.put.new.self (pair_lines (take i ps))
          c.as_slice.result.now c.loop-key.invariant.puts c.in_ok-put.ensures.ok);
    }

pub loop-key-init : goal.loop-key-init
loop-key-init g c = search rules

pub offset_bounds-pairs-key-index : goal.offset_bounds-pairs-key-index
offset_bounds-pairs-key-index g c = search rules

pub as_slice-requires : goal.as_slice-requires
as_slice-requires g c = search rules

pub put-requires : goal.put-requires
put-requires g c = search rules

pub returns-in_err-put-clause-ok : goal.returns-in_err-put-clause-ok
returns-in_err-put-clause-ok g c = search rules

pub returns-in_err-put-clause-steady : goal.returns-in_err-put-clause-steady
returns-in_err-put-clause-steady g c = search rules

pub returns-in_err-put-clause-failed : goal.returns-in_err-put-clause-failed
returns-in_err-put-clause-failed g c = search rules

pub returns-clause-ok : goal.returns-clause-ok
returns-clause-ok g c = grind (arith, common_steps)

pub returns-clause-steady : goal.returns-clause-steady
returns-clause-steady g c = search rules

pub returns-clause-err : goal.returns-clause-err
returns-clause-err g c = search rules

pub returns-clause-failed : goal.returns-clause-failed
returns-clause-failed g c = search rules
