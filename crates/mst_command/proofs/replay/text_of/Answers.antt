use Rattle.std.proofs.Common.{rules}
use Rattle.mst_command.specs.Recalling.{reply_text}
use Rattle.mst_command.proofs.replay.text_of.Goals as goal

pub new-text-requires : goal.new-text-requires
new-text-requires c = search rules

pub extend_numbered-requires : goal.extend_numbered-requires
extend_numbered-requires c = search rules

pub extend_numbered-requires-in-Record : goal.extend_numbered-requires-in-Record
extend_numbered-requires-in-Record c = search rules

pub extend-requires : goal.extend-requires
extend-requires c = search rules

pub extend-requires-in-Yes : goal.extend-requires-in-Yes
extend-requires-in-Yes c = search rules

pub extend-requires-in-No : goal.extend-requires-in-No
extend-requires-in-No c = search rules

pub extend-requires-in-Refused : goal.extend-requires-in-Refused
extend-requires-in-Refused c = search rules

pub extend-requires-in-FaultLine : goal.extend-requires-in-FaultLine
extend-requires-in-FaultLine c = search rules

pub extend-requires-2 : goal.extend-requires-2
extend-requires-2 c = search rules

pub returns : goal.returns
unfolding reply_text
returns c = search rules
