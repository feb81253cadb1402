use Rattle.mst_requests.proofs.Names.{rules, sym, ap, ◌∙◌, fields_behind, edits_in, told}
use Rattle.mst_requests.proofs.Batching.{comes_to, one_more}
use Rattle.mst_requests.proofs.edits.batch_fault.Goals as goal

pub loop-rest-preserved : goal.loop-rest-preserved
loop-rest-preserved c = let fault = c.loop-rest.fault in
    let edit = c.in-Some-first_edit.edit in
    let left = edits_in (fields_behind c.in-Some-first_edit.others) in record {
      small = search rules;
      same = c.loop-rest.invariant.same
          ∙ ap (λ r. comes_to fault (edits_in (fields_behind r))) c.in-Some.is
          ∙ ap (comes_to fault) c.in-Some-first_edit.ensures.edits
          ∙ one_more fault edit left
          ∙ ap (λ f. comes_to f left) (sym (c.first_told-fault.ensures
          ∙ ap (told fault) c.err.ensures.value));
    }

pub loop-rest-init : goal.loop-rest-init
loop-rest-init c = search rules

pub first_edit-requires : goal.first_edit-requires
first_edit-requires c = search rules

pub returns-in_default-first_edit : goal.returns-in_default-first_edit
returns-in_default-first_edit c = search rules

pub loop-rest-smaller : goal.loop-rest-smaller
loop-rest-smaller c = search rules

pub returns : goal.returns
returns c = search rules
