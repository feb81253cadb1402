use Rattle.mst_sharded_proof.proofs.Lengths.{proof_short}
use Rattle.mst_sharded_proof.proofs.laws.proofs_are_short.Goals as goal

pub returns : goal.returns
returns c = record { short = λ format m d k has b. proof_short format m d k has b }
