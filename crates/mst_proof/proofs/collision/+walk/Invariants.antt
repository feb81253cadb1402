use Rattle.mst_proof.proofs.Names.{length}
use Rattle.mst_proof.proofs.collision.+walk.Given as goal

abbrev pub decreases-walk : goal.decreases-walk
decreases-walk g l = length l.texts
