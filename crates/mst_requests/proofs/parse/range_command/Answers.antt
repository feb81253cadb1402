use Rattle.mst_requests.proofs.Names.{rules}
use Rattle.mst_requests.proofs.parse.range_command.Goals as goal

pub three_fields-requires : goal.three_fields-requires
three_fields-requires c = search rules

pub returns-in_err-from : goal.returns-in_err-from
returns-in_err-from c = search rules

pub bound_in-requires : goal.bound_in-requires
bound_in-requires c = search rules

pub bound_in-requires-2 : goal.bound_in-requires-2
bound_in-requires-2 c = search rules

pub returns-in-Some-Ok-Some-Ok-Some : goal.returns-in-Some-Ok-Some-Ok-Some
returns-in-Some-Ok-Some-Ok-Some c = search rules

pub returns-in-Some-Some-Some : goal.returns-in-Some-Some-Some
returns-in-Some-Some-Some c = search rules

pub returns-in_default : goal.returns-in_default
returns-in_default c = search rules
