-- What a replay answers to what is kept of a line.
use Rattle.std.specs.Prelude.{◌≡◌, ℕ, List, [], ◌∷◌, ◌++◌, Option, Some, None, codes, decimal}
use Rattle.mst_replay.specs.declared.reply.Reply.{Reply}
use Rattle.mst_replay.specs.declared.reply.Reply.TheVariants.{Records, Record, Done, Yes, No, Refused, FaultLine}
use Rattle.mst_replay.specs.declared.Replay.{Replay}
use Rattle.mst_replay.specs.Replay.{core_state, Replays}

abbrev pub reply_words : Reply → List ℕ
reply_words (Records n) = codes "records " ++ decimal n
reply_words (Record r) = codes "record " ++ decimal r
reply_words Done = codes "done"
reply_words Yes = codes "yes"
reply_words No = codes "no"
reply_words Refused = codes "refused"
reply_words FaultLine = codes "fault line"

-- a reply with the newline that ends it
unfoldable pub reply_text : Reply → List ℕ
reply_text reply = reply_words reply ++ 10 ∷ []

-- From the one replay to the other the line was answered with the text. A line that is too long
-- changes nothing.
abbrev pub Recalls : Replay → Option (List ℕ) → List ℕ → Replay → Type 0
Recalls a None text b = (text ≡ reply_text FaultLine) × (core_state b ≡ core_state a)
Recalls a (Some line) text b =
    (reply : Reply) × Replays (core_state a) line reply (core_state b) × (text ≡ reply_text reply)
