use Rattle.mst_requests.proofs.Names.{rules}
use Rattle.mst_requests.proofs.parse.request_of.Goals as goal

pub returns-in_default : goal.returns-in_default
returns-in_default c = search rules

pub command_in-requires : goal.command_in-requires
command_in-requires c = search rules

pub returns-in_err-command : goal.returns-in_err-command
returns-in_err-command c = search rules

pub returns : goal.returns
returns c = search rules
