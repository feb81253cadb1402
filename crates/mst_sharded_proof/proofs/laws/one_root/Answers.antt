use Rattle.mst_sharded_proof.proofs.OneRoot.{one_root}
use Rattle.mst_sharded_proof.proofs.laws.one_root.Goals as goal

pub returns : goal.returns
returns c = record { same = one_root }
