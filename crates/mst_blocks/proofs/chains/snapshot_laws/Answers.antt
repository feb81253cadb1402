use Rattle.mst_blocks.proofs.Ordered.{snapshot_map}
use Rattle.mst_blocks.proofs.chains.snapshot_laws.Goals as goal

pub returns : goal.returns
returns c = record { map = snapshot_map }
