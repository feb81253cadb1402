use Rattle.mst_requests.proofs.Names.{rules}
use Rattle.mst_requests.proofs.fields.pass_of.Goals as goal

pub bounds-field-0 : goal.bounds-field-0
bounds-field-0 c = search rules

pub returns-in_default : goal.returns-in_default
returns-in_default c = search rules

pub returns-in-empty : goal.returns-in-empty
returns-in-empty c = search rules

pub returns-in-empty-2 : goal.returns-in-empty-2
returns-in-empty-2 c = search rules
