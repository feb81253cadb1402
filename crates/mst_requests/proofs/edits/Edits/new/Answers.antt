use Rattle.mst_requests.proofs.Names.{sym, ◌∙◌, fields_behind, edits_read}
use Rattle.mst_requests.proofs.Batching.{has_fault, has_none}
use Rattle.mst_requests.proofs.edits.Edits.new.Goals as goal

pub invariant_of-result : goal.invariant_of-result
invariant_of-result c = (
  c.requires,
  has_none (edits_read (fields_behind c.args.fields)) (sym c.in-None.is ∙ c.batch_fault.ensures),
)

pub returns-in-Some : goal.returns-in-Some
returns-in-Some c = record {
  edits = has_fault (edits_read (fields_behind c.args.fields))
      c.in-Some.fault (sym c.in-Some.is ∙ c.batch_fault.ensures);
}

pub returns-in-None : goal.returns-in-None
returns-in-None c = record {
  edits = sym (has_none (edits_read (fields_behind c.args.fields))
      (sym c.in-None.is ∙ c.batch_fault.ensures));
}
