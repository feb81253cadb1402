use Rattle.std.proofs.Common.{rules}
use Rattle.std.proofs.Common.{Err, ap, subst, ◌∙◌, ◌≡◌}
use Rattle.std.proofs.lemmas.Result.{IfErr-at_err, IfOk-at_ok}
use Rattle.mst_arguments.specs.Commanding.{Untouched}
use Rattle.mst.specs.Tasks.{EndedEarly}
use Rattle.mst_arguments.specs.declared.task.Refusal.TheVariants.{Device}
use Rattle.mst.proofs.Asked.{told_early, stopped_early}
use Rattle.mst_arguments.specs.declared.task.Ending.{Ending}
use Rattle.mst.specs.Commanded.{Performed}
use Rattle.mst.proofs.Endings.{at_done, at_refused, no_ending}
use Rattle.mst.proofs.program.command.Goals as goal

pub returns-in-Ok-Done-clause-commanded : goal.returns-in-Ok-Done-clause-commanded
returns-in-Ok-Done-clause-commanded g c = record {
  range = search rules;
  performed = let P = λ (ending : Ending). Performed g.S.Source.gives g.S.Source.left g.O.Sink.takes
      c.args.words.now c.args.source.now c.args.out.now ending c.perform.new.source
      c.perform.new.out in
      at_done P (subst P c.in-Ok-Done.field-0-is
      (IfOk-at_ok P c.in-Ok-Done.is c.perform.ensures.performed));
  silent = search rules;
  told = search rules;
  refused = search rules;
  memory = search rules;
  memory_unread = search rules;
  device = search rules;
  stopped = search rules;
}

pub returns-in-Ok-ProofRefused-clause-commanded : goal.returns-in-Ok-ProofRefused-clause-commanded
returns-in-Ok-ProofRefused-clause-commanded g c = record {
  range = search rules;
  performed = let P = λ (ending : Ending). Performed g.S.Source.gives g.S.Source.left g.O.Sink.takes
      c.args.words.now c.args.source.now c.args.out.now ending c.perform.new.source
      c.perform.new.out in
      at_refused P
      (subst P c.in-Ok-ProofRefused.field-0-is
      (IfOk-at_ok P c.in-Ok-ProofRefused.is c.perform.ensures.performed));
  silent = search rules;
  told = search rules;
  refused = search rules;
  memory = search rules;
  memory_unread = search rules;
  device = search rules;
  stopped = search rules;
}

pub returns-in-Err-clause-commanded : goal.returns-in-Err-clause-commanded
returns-in-Err-clause-commanded g c = record {
  range = search rules;
  performed = λ ending is. absurd
      (no_ending g.E.Sink.failures c.args.err.now c.complain.new.err c.in-Err.why
      c.complain.result c.complain.ensures.failed c.complain.ensures.status ending is);
  silent = search rules;
  told = told_early g.E.Sink.takes g.E.Sink.failures c.args.err.now
      c.complain.new.err c.in-Err.why c.complain.result c.complain.ensures.failed
      c.complain.ensures.status c.complain.ensures.told c.args.words.now c.in-Err.ensures.comes;
  refused = search rules;
  memory = search rules;
  memory_unread = search rules;
  device = search rules;
  stopped =
      let broke = λ (d : c.in-Err.why ≡ Device). c.perform.ensures.stopped (c.in-Err.is ∙ ap Err d)
      in
      stopped_early g.E.Sink.takes g.E.Sink.failures c.args.err.now c.complain.new.err c.in-Err.why
      c.complain.result c.complain.ensures.failed c.complain.ensures.status
      c.complain.ensures.told
      (λ why. EndedEarly g.S.Source.gives g.S.Source.left g.O.Sink.takes g.O.Sink.failures
      c.args.words.now why c.args.source.now c.args.out.now c.perform.new.source
      c.perform.new.out)
      broke
      (record {
        comes = c.in-Err.ensures.comes;
        unread = c.in-Err.ensures.unread;
        untouched = λ none. IfErr-at_err
            (λ why. Untouched why c.args.source.now c.perform.new.source) c.in-Err.is
            (c.perform.ensures.untouched none);
        unwritten = c.in-Err.ensures.unwritten;
        broke = broke;
      })
      c.complain.ensures.broke;
}

pub perform-requires-clause-source : goal.perform-requires-clause-source
perform-requires-clause-source g c = search rules

pub perform-requires-clause-out : goal.perform-requires-clause-out
perform-requires-clause-out g c = search rules

pub complain-requires : goal.complain-requires
complain-requires g c = search rules

pub returns-in-Ok-Done-clause-done : goal.returns-in-Ok-Done-clause-done
returns-in-Ok-Done-clause-done g c = search rules

pub returns-in-Ok-Done-clause-replayed : goal.returns-in-Ok-Done-clause-replayed
returns-in-Ok-Done-clause-replayed g c = search rules

pub returns-in-Ok-Done-clause-loaded : goal.returns-in-Ok-Done-clause-loaded
returns-in-Ok-Done-clause-loaded g c = search rules

pub returns-in-Ok-Done-clause-verified : goal.returns-in-Ok-Done-clause-verified
returns-in-Ok-Done-clause-verified g c = search rules

pub returns-in-Ok-Done-clause-proof_refused : goal.returns-in-Ok-Done-clause-proof_refused
returns-in-Ok-Done-clause-proof_refused g c = search rules

pub returns-in-Ok-ProofRefused-clause-done : goal.returns-in-Ok-ProofRefused-clause-done
returns-in-Ok-ProofRefused-clause-done g c = search rules

pub returns-in-Ok-ProofRefused-clause-replayed : goal.returns-in-Ok-ProofRefused-clause-replayed
returns-in-Ok-ProofRefused-clause-replayed g c = search rules

pub returns-in-Ok-ProofRefused-clause-loaded : goal.returns-in-Ok-ProofRefused-clause-loaded
returns-in-Ok-ProofRefused-clause-loaded g c = search rules

pub returns-in-Ok-ProofRefused-clause-verified : goal.returns-in-Ok-ProofRefused-clause-verified
returns-in-Ok-ProofRefused-clause-verified g c = search rules

pub returns-in-Ok-ProofRefused-clause-proof_refused :
    goal.returns-in-Ok-ProofRefused-clause-proof_refused
returns-in-Ok-ProofRefused-clause-proof_refused g c = search rules

pub returns-in-Err-clause-done : goal.returns-in-Err-clause-done
returns-in-Err-clause-done g c = search rules

pub returns-in-Err-clause-replayed : goal.returns-in-Err-clause-replayed
returns-in-Err-clause-replayed g c = search rules

pub returns-in-Err-clause-loaded : goal.returns-in-Err-clause-loaded
returns-in-Err-clause-loaded g c = search rules

pub returns-in-Err-clause-verified : goal.returns-in-Err-clause-verified
returns-in-Err-clause-verified g c = search rules

pub returns-in-Err-clause-proof_refused : goal.returns-in-Err-clause-proof_refused
returns-in-Err-clause-proof_refused g c = search rules

pub returns-in-Ok-Done-clause-sharded : goal.returns-in-Ok-Done-clause-sharded
returns-in-Ok-Done-clause-sharded g c = search rules

pub returns-in-Ok-ProofRefused-clause-sharded : goal.returns-in-Ok-ProofRefused-clause-sharded
returns-in-Ok-ProofRefused-clause-sharded g c = search rules

pub returns-in-Err-clause-sharded : goal.returns-in-Err-clause-sharded
returns-in-Err-clause-sharded g c = search rules
