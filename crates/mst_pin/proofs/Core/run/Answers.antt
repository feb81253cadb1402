use Rattle.mst_pin.proofs.Names.{rules, ◌≡◌, ◌+◌, ℕ, List, [], ◌∷◌, ◌++◌, get_or, take, ap, sym, subst, ◌∙◌, cond, arith, Event, Pin, Answer, Runs, state}
use Rattle.std.proofs.Common.{add-one}
use Rattle.std.proofs.lemmas.Grind.{common_steps}
use Rattle.std.specs.Prelude.{is_ok}
use Rattle.std.proofs.Math.Seq.{take-suc}
use Rattle.mst_pin.proofs.Runs.{runs_more}
use Rattle.mst_pin.proofs.Core.run.Goals as goal

pub loop-event-preserved : goal.loop-event-preserved
loop-event-preserved g c =
    let es : List Event = c.args.events.now in let i : ℕ = c.loop-event.event-index in
    let old : List Answer = c.loop-event.answers.items in
    let items : c.push.new.self.items ≡ old ++ c.step.result ∷ [] =
    c.push.ensures.items ∙ ap (λ z. cond (is_ok z) (old ++ c.step.result ∷ []) old)
    c.unwrap.ensures in
    let more : take (i + 1) es ≡ take i es ++ get_or es i (Pin 0) ∷ [] =
    ap (λ (z : ℕ). take z es) (add-one i) ∙ take-suc es i (Pin 0) c.loop-event-test.true in
    let ran = runs_more (state c.args.self.now) (state c.loop-event.self) (state c.step.new.self)
    (take i es) old (get_or es i (Pin 0)) c.step.result c.loop-event.invariant.ran
    c.step.ensures.step in
    record {
      ran =
          subst (λ (z : List Event). Runs (state c.args.self.now) z c.push.new.self.items
          (state c.step.new.self)) (sym more)
          (subst (λ (z : List Answer). Runs (state c.args.self.now)
          (take i es ++ get_or es i (Pin 0) ∷ []) z (state c.step.new.self)) (sym items) ran);
      taken = grind (arith, common_steps);
      room = omega arith;
    }

pub returns-in_err-answers-clause-ok : goal.returns-in_err-answers-clause-ok
returns-in_err-answers-clause-ok g c = search rules

pub returns-in_err-answers-clause-memory : goal.returns-in_err-answers-clause-memory
returns-in_err-answers-clause-memory g c = search rules

pub loop-event-init : goal.loop-event-init
loop-event-init g c = search rules

pub offset_bounds-events-event-index : goal.offset_bounds-events-event-index
offset_bounds-events-event-index g c = search rules

pub unwrap-requires : goal.unwrap-requires
unwrap-requires g c = search rules

pub returns-clause-ok : goal.returns-clause-ok
returns-clause-ok g c = grind (arith, common_steps)

pub returns-clause-memory : goal.returns-clause-memory
returns-clause-memory g c = search rules
