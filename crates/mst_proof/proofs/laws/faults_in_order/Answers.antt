use Rattle.mst_proof.proofs.Failing.{fault_by, proof_faulty}
use Rattle.mst_proof.proofs.Faults.{fails_by, proof_fails}
use Rattle.mst_proof.proofs.laws.faults_in_order.Goals as goal

pub returns-clause-text : goal.returns-clause-text
returns-clause-text c format k x text fault b =
    (fails_by format k x text fault b, fault_by format k x text b fault)

pub returns-clause-fails : goal.returns-clause-fails
returns-clause-fails c format root k proof fault b = (
  proof_fails format root k proof fault b,
  proof_faulty format root k proof fault b,
)
