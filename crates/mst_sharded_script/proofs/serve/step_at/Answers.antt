use Rattle.mst_sharded_script.proofs.Names.{◌≡◌, ◌<◌, ℕ, List, length, vec_items, vec_len, sym, ap, subst, arith, text_of, PassState, ScriptState, StepsAt, stepped}
use Rattle.mst_sharded_script.proofs.Stepping.{back_again, steps_at, over_new, over_none}
use Rattle.mst_sharded_script.proofs.serve.step_at.Given.{Over}
use Rattle.mst_sharded_script.proofs.serve.step_at.Goals.{After-put_back}
use Rattle.mst_sharded_script.proofs.serve.step_at.Goals as goal

module _ (g : Over) (c : After-put_back g) where
  abbrev s : ScriptState
  s = record {
    writer = c.script.inside.writer;
    passes = vec_items c.script.inside.passes;
    layout = c.script.inside.layout;
  }

  abbrev after : ScriptState
  after = record {
    writer = c.step-answer.result.writer;
    passes = vec_items c.put_back.new.passes;
    layout = c.script.inside.layout;
  }

  low : c.args.place < length (vec_items c.script.inside.passes)
  low = subst (λ (z : ScriptState). c.args.place < length z.passes) (sym c.script.view_is)
      c.requires.there

  now : after ≡ stepped c.args.place c.step-answer.result.writer c.step-answer.result.pass s
  now =
      let taken = c.swap_remove-pass.ensures.len in
      let was = c.script.inside.passes.ok.0 in
      let again = c.put_back.ensures.len in
      let whole = c.put_back.new.passes.ok.0 in
      ap (λ (l : List PassState). record {
        writer = c.step-answer.result.writer;
        passes = l;
        layout = c.script.inside.layout;
      })
      (back_again (vec_items c.script.inside.passes) (vec_items c.swap_remove-pass.new.self)
      (vec_items c.put_back.new.passes) c.args.place (vec_len c.swap_remove-pass.new.self)
      c.swap_remove-pass.result c.step-answer.result.pass low (omega (arith, taken, was))
      (omega (arith, again, whole)) c.swap_remove-pass.ensures.items c.put_back.ensures.back)

pub returns-in-Some : goal.returns-in-Some
returns-in-Some g c =
    let at = (goal.at.returns-in-Some g c).After-put_back in
    let text : List ℕ = text_of c.step-answer.result.answer in
    let x = c.step-answer.result.writer in
    let p = c.step-answer.result.pass in
    subst (λ (z : ScriptState). StepsAt c.args.place c.args.command.now z text c.moved_to.result)
    c.script.view_is
    (steps_at c.args.command.now (s g at) c.moved_to.result c.args.place c.swap_remove-pass.result
    text x p c.step-answer.result.new (low g at) c.swap_remove-pass.ensures.value
    c.step-answer.ensures.step
    (over_new c.step-answer.result.new c.in-Some.new c.moved_to.result (after g at)
    (stepped c.args.place x p (s g at)) c.in-Some.is c.moved_to.ensures.moved (now g at)))

pub returns-in-None : goal.returns-in-None
returns-in-None g c =
    let at = (goal.at.returns-in-None g c).After-put_back in
    let text : List ℕ = text_of c.step-answer.result.answer in
    let x = c.step-answer.result.writer in
    let p = c.step-answer.result.pass in
    subst (λ (z : ScriptState). StepsAt c.args.place c.args.command.now z text (after g at))
    c.script.view_is
    (steps_at c.args.command.now (s g at) (after g at) c.args.place c.swap_remove-pass.result
    text x p c.step-answer.result.new (low g at) c.swap_remove-pass.ensures.value
    c.step-answer.ensures.step
    (over_none c.step-answer.result.new (after g at) (stepped c.args.place x p (s g at))
    c.in-None.is (now g at)))
