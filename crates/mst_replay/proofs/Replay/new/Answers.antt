use Rattle.mst_replay.proofs.Names.{rules}
use Rattle.mst_replay.proofs.Replay.new.Goals as goal

pub returns : goal.returns
returns c = search rules
