-- The line that answers for the core.
use Rattle.mst_pin.specs.declared.event.Answer.{Answer}
use Rattle.mst_pin.specs.declared.event.Answer.TheVariants as answer
use Rattle.mst_replay.specs.declared.reply.Reply.{Reply}
use Rattle.mst_replay.specs.declared.reply.Reply.TheVariants as reply

abbrev pub reply_of : Answer → Reply
reply_of (answer.Record r) = reply.Record r
reply_of answer.Done = reply.Done
reply_of answer.Yes = reply.Yes
reply_of answer.No = reply.No
reply_of answer.Refused = reply.Refused
