use Rattle.mst_requests.proofs.Names.{rules}
use Rattle.mst_requests.proofs.parse.get_command.Goals as goal

pub key_alone-requires : goal.key_alone-requires
key_alone-requires c = search rules

pub returns-in_err-key_alone : goal.returns-in_err-key_alone
returns-in_err-key_alone c = search rules

pub returns : goal.returns
returns c = search rules
