use Rattle.mst_replay.proofs.Names.{rules}
use Rattle.mst_replay.proofs.reply.ReplyFromAnswer.from.Goals as goal

pub returns-in-Record : goal.returns-in-Record
returns-in-Record c = search rules

pub returns-in-Done : goal.returns-in-Done
returns-in-Done c = search rules

pub returns-in-Yes : goal.returns-in-Yes
returns-in-Yes c = search rules

pub returns-in-No : goal.returns-in-No
returns-in-No c = search rules

pub returns-in-Refused : goal.returns-in-Refused
returns-in-Refused c = search rules
