use Rattle.mst_requests.proofs.Names.{rules}
use Rattle.mst_requests.proofs.edits.first_edit.Goals as goal

pub returns-in_err-rest-clause-edits : goal.returns-in_err-rest-clause-edits
returns-in_err-rest-clause-edits c = search rules

pub returns-in_err-rest-clause-size : goal.returns-in_err-rest-clause-size
returns-in_err-rest-clause-size c = search rules

pub as_slice-requires : goal.as_slice-requires
as_slice-requires c = search rules

pub remove_in-requires : goal.remove_in-requires
remove_in-requires c = search rules

pub returns-then-eq-clause-edits : goal.returns-then-eq-clause-edits
returns-then-eq-clause-edits c = search rules

pub returns-then-eq-clause-size : goal.returns-then-eq-clause-size
returns-then-eq-clause-size c = search rules

pub as_slice-requires-2 : goal.as_slice-requires-2
as_slice-requires-2 c = search rules

pub returns-then-ne-clause-edits : goal.returns-then-ne-clause-edits
returns-then-ne-clause-edits c = search rules

pub returns-then-ne-clause-size : goal.returns-then-ne-clause-size
returns-then-ne-clause-size c = search rules

pub returns-in_err-rest-2-clause-edits : goal.returns-in_err-rest-2-clause-edits
returns-in_err-rest-2-clause-edits c = search rules

pub returns-in_err-rest-2-clause-size : goal.returns-in_err-rest-2-clause-size
returns-in_err-rest-2-clause-size c = search rules

pub put_in-requires-clause-key : goal.put_in-requires-clause-key
put_in-requires-clause-key c = search rules

pub put_in-requires-clause-value : goal.put_in-requires-clause-value
put_in-requires-clause-value c = search rules

pub returns-clause-edits : goal.returns-clause-edits
returns-clause-edits c = search rules

pub returns-clause-size : goal.returns-clause-size
returns-clause-size c = search rules
