use Rattle.mst_proof.proofs.Names.{rules}
use Rattle.mst_proof.proofs.collision.is_collision.Goals as goal

pub eq-requires : goal.eq-requires
eq-requires c = search rules

pub returns-then-ne : goal.returns-then-ne
returns-then-ne c = search rules

pub returns-else-ne : goal.returns-else-ne
returns-else-ne c = search rules
