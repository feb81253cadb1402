use Rattle.std.proofs.Common.{arith, rules}
use Rattle.std.proofs.lemmas.Grind.{common_steps}
use Rattle.std.proofs.Common.{◌≡◌, List, ℕ, [], inl, inr, subst, ◌∙◌}
use Rattle.mst_devices.proofs.Putting.{map_ok, map_err, on_err, both_taken, second_broke}
use Rattle.mst_devices.proofs.pending.Pending.put.Goals as goal

pub returns-clause-ok : goal.returns-clause-ok
returns-clause-ok g c =
    let same : c.append.new.self ≡ c.args.self.now = c.if-append.ensures.waits in
    let same-2 : c.append-2.new.self ≡ c.flush.new.self = c.if-append-2.ensures.waits in
    let is : c.append-2.new.self ≡ [] = same-2 ∙ c.in_ok-flush.ensures.empty in
    let flushed = subst (λ (l : List ℕ). g.W.Sink.takes c.args.sink.now l c.flush.new.sink) same
    c.in_ok-flush.ensures.ok in
    map_ok c.write_all.result c.write_all.ensures.ok (λ y.
    both_taken g.W.Sink.takes g.met.W.Sink.takes_more c.args.sink.now c.flush.new.sink
    c.write_all.new.sink c.args.self.now c.args.text.now c.append-2.new.self flushed y is)

pub returns-clause-err : goal.returns-clause-err
returns-clause-err g c =
    let same : c.append.new.self ≡ c.args.self.now = c.if-append.ensures.waits in
    let flushed = subst (λ (l : List ℕ). g.W.Sink.takes c.args.sink.now l c.flush.new.sink) same
    c.in_ok-flush.ensures.ok in
    map_err c.write_all.result c.write_all.ensures.err (λ y.
    second_broke g.W.Sink.takes g.met.W.Sink.takes_more c.args.sink.now c.flush.new.sink
    c.write_all.new.sink c.args.self.now c.args.text.now flushed y)

pub returns-then-append-clause-ok : goal.returns-then-append-clause-ok
returns-then-append-clause-ok g c = search rules

pub returns-then-append-clause-steady : goal.returns-then-append-clause-steady
returns-then-append-clause-steady g c = search rules

pub returns-then-append-clause-err : goal.returns-then-append-clause-err
returns-then-append-clause-err g c = search rules

pub returns-then-append-clause-failed : goal.returns-then-append-clause-failed
returns-then-append-clause-failed g c = search rules

pub returns-in_err-flush-clause-ok : goal.returns-in_err-flush-clause-ok
returns-in_err-flush-clause-ok g c = search rules

pub returns-in_err-flush-clause-steady : goal.returns-in_err-flush-clause-steady
returns-in_err-flush-clause-steady g c = search rules

pub returns-in_err-flush-clause-err : goal.returns-in_err-flush-clause-err
returns-in_err-flush-clause-err g c = grind (arith, common_steps)

pub returns-in_err-flush-clause-failed : goal.returns-in_err-flush-clause-failed
returns-in_err-flush-clause-failed g c = search rules

pub returns-then-append-2-clause-ok : goal.returns-then-append-2-clause-ok
returns-then-append-2-clause-ok g c = search rules

pub returns-then-append-2-clause-steady : goal.returns-then-append-2-clause-steady
returns-then-append-2-clause-steady g c = search rules

pub returns-then-append-2-clause-err : goal.returns-then-append-2-clause-err
returns-then-append-2-clause-err g c = search rules

pub returns-then-append-2-clause-failed : goal.returns-then-append-2-clause-failed
returns-then-append-2-clause-failed g c = search rules

pub returns-clause-steady : goal.returns-clause-steady
returns-clause-steady g c = search rules

pub returns-clause-failed : goal.returns-clause-failed
returns-clause-failed g c = search rules

pub returns-clause-kept : goal.returns-clause-kept
returns-clause-kept g c =
    let same : c.append-2.new.self ≡ c.flush.new.self = c.if-append-2.ensures.waits in
    on_err c.write_all.result (inr (same ∙ c.in_ok-flush.ensures.empty))

pub returns-in_err-flush-clause-kept : goal.returns-in_err-flush-clause-kept
returns-in_err-flush-clause-kept g c =
    let same : c.append.new.self ≡ c.args.self.now = c.if-append.ensures.waits in
    let kept : c.flush.new.self ≡ c.append.new.self = search rules in
    on_err c.from_residual.result (inl (kept ∙ same))
