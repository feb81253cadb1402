use Rattle.mst_sharded_proof.proofs.Failing.{sharded_fails, sharded_faulty}
use Rattle.mst_sharded_proof.proofs.laws.faults_in_order.Goals as goal

pub returns : goal.returns
returns c =
    record {
      fails = λ format root k proof fault b. (
        sharded_fails format root k proof fault b,
        sharded_faulty format root k proof fault b,
      );
    }
