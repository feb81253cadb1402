use Rattle.std.proofs.Common.{rules}
use Rattle.mst_command.proofs.replay.answer_event.Goals as goal

pub returns-in-Some : goal.returns-in-Some
returns-in-Some c = search rules

pub returns-in-None : goal.returns-in-None
returns-in-None c = search rules
