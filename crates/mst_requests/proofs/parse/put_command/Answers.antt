use Rattle.mst_requests.proofs.Names.{rules}
use Rattle.mst_requests.proofs.parse.put_command.Goals as goal

pub two_fields-requires : goal.two_fields-requires
two_fields-requires c = search rules

pub returns-in_err-key : goal.returns-in_err-key
returns-in_err-key c = search rules

pub key_of-requires : goal.key_of-requires
key_of-requires c = search rules

pub value_of-requires : goal.value_of-requires
value_of-requires c = search rules

pub returns-in-Some-Ok-Some-Ok : goal.returns-in-Some-Ok-Some-Ok
returns-in-Some-Ok-Some-Ok c = search rules

pub returns-in-Some-Ok-Some-Err : goal.returns-in-Some-Ok-Some-Err
returns-in-Some-Ok-Some-Err c = search rules

pub returns-in-Some-Err-Some : goal.returns-in-Some-Err-Some
returns-in-Some-Err-Some c = search rules

pub returns-in_default : goal.returns-in_default
returns-in_default c = search rules
