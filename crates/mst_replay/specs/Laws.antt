-- What a line is answered whatever stands before it.
use Rattle.std.specs.Prelude.{◌≡◌, ◌↔◌, ℕ, List, Option}
use Rattle.mst_pin.specs.State.{State}
use Rattle.mst_replay.specs.declared.reply.Reply.{Reply}
use Rattle.mst_replay.specs.declared.reply.Reply.TheVariants.{FaultLine}
use Rattle.mst_replay.specs.Replay.{Replays}

-- the answer is `fault line`, and nothing changes
abbrev pub IsFault : List ℕ → Type 0
IsFault line = (s t : Option State) (reply : Reply)
    → Replays s line reply t ↔ ((reply ≡ FaultLine) × (t ≡ s))
