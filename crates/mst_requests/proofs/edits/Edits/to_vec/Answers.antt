use Rattle.mst_requests.proofs.Names.{rules, ap, ◌∙◌, subst, fields_behind, before, edits_in}
use Rattle.mst_requests.proofs.Batching.{IsRead, on_err, fault_left, one_read, some_left}
use Rattle.mst_requests.proofs.edits.Edits.to_vec.Goals as goal

pub unreachable-requires-in_default-edit : goal.unreachable-requires-in_default-edit
unreachable-requires-in_default-edit g c =
    let all = c.args.self.now in let read = c.loop-rest.edits.items in
    let left = edits_in (fields_behind c.in-Some-first_edit.others) in
    fault_left all read c.in_default-edit.field-0 left
    (subst (λ es. IsRead all read es) (ap (λ r. edits_in (fields_behind r)) c.in-Some.is
    ∙ c.in-Some-first_edit.ensures.edits ∙ ap (λ e. before e left) c.in_default-edit.is)
    c.loop-rest.invariant.read)

pub returns-in_err-push-clause-some : goal.returns-in_err-push-clause-some
returns-in_err-push-clause-some g c =
    let all = c.args.self.now in let read = c.loop-rest.edits.items in
    let left = edits_in (fields_behind c.in-Some-first_edit.others) in
    on_err c.from_residual.result (some_left all read c.in-Ok.edit left
    (subst (λ es. IsRead all read es) (ap (λ r. edits_in (fields_behind r)) c.in-Some.is
    ∙ c.in-Some-first_edit.ensures.edits ∙ ap (λ e. before e left) c.in-Ok.is)
    c.loop-rest.invariant.read))

pub loop-rest-preserved : goal.loop-rest-preserved
loop-rest-preserved g c =
    let all = c.args.self.now in let read = c.loop-rest.edits.items in
    let left = edits_in (fields_behind c.in-Some-first_edit.others) in record {
      small = search rules;
      read = one_read all read c.push.new.self.items c.in-Ok.edit left c.in_ok-push.ensures.items
          (subst (λ es. IsRead all read es) (ap (λ r. edits_in (fields_behind r)) c.in-Some.is
          ∙ c.in-Some-first_edit.ensures.edits ∙ ap (λ e. before e left) c.in-Ok.is)
          c.loop-rest.invariant.read);
    }
