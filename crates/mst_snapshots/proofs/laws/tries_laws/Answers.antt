use Rattle.mst_snapshots.proofs.Counted.{steps_of}
use Rattle.mst_snapshots.proofs.laws.tries_laws.Goals as goal

pub returns : goal.returns
returns c = record { steps = steps_of }
