-- One line of a replay: the state of the core, if there is one, and the answer.
use Rattle.std.specs.Prelude.{◌≡◌, ◌⊎◌, ℕ, ◌+◌, List, Option, Some, None}
use Rattle.mst_pin.specs.declared.Core.{Core}
use Rattle.mst_pin.specs.declared.event.Answer.{Answer}
use Rattle.mst_pin.specs.State.{State, opening, Steps}
use Rattle.mst_pin.specs.Core.{state}
use Rattle.mst_replay.specs.declared.command.Command.{Command}
use Rattle.mst_replay.specs.declared.command.Command.TheVariants.{Open, Take}
use Rattle.mst_replay.specs.declared.reply.Reply.{Reply}
use Rattle.mst_replay.specs.declared.reply.Reply.TheVariants.{Records, FaultLine}
use Rattle.mst_replay.specs.declared.Replay.{Replay}
use Rattle.mst_replay.specs.Line.{IsSpelt}
use Rattle.mst_replay.specs.Reply.{reply_of}

abbrev pub state_in : Option Core → Option State
state_in None = None
state_in (Some c) = Some (state c)

-- the state of the replay's core
abbrev pub core_state : Replay → Option State
core_state r = state_in r.core

-- what a command does
abbrev pub Obeys : Option State → Command → Reply → Option State → Type 0
Obeys s (Open n) reply t = (reply ≡ Records (n + 2)) × (t ≡ Some (opening n))
Obeys None (Take e) reply t = (reply ≡ FaultLine) × (t ≡ None)
Obeys (Some s) (Take e) reply t =
    (a : Answer) × (u : State) × Steps s e a u × (reply ≡ reply_of a) × (t ≡ Some u)

-- the line is a command's text, and does what that does; or it is no command's text, and changes
-- nothing
abbrev pub Replays : Option State → List ℕ → Reply → Option State → Type 0
Replays s line reply t = ((c : Command) × IsSpelt c line × Obeys s c reply t)
    ⊎ (((c : Command) → IsSpelt c line → ⊥) × (reply ≡ FaultLine) × (t ≡ s))
