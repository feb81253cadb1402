use Rattle.mst_proof.proofs.Names.{rules}
use Rattle.mst_proof.proofs.collision.value_pair.Goals as goal

pub returns-in_default : goal.returns-in_default
returns-in_default g c = search rules

pub returns-in_default-value-clause-none : goal.returns-in_default-value-clause-none
returns-in_default-value-clause-none g c = search rules

pub returns-in_default-value-clause-some : goal.returns-in_default-value-clause-some
returns-in_default-value-clause-some g c = search rules

pub returns-then-not-is_collision-clause-none : goal.returns-then-not-is_collision-clause-none
returns-then-not-is_collision-clause-none g c = search rules

pub returns-then-not-is_collision-clause-some : goal.returns-then-not-is_collision-clause-some
returns-then-not-is_collision-clause-some g c = search rules

pub returns-in_err-value-clause-none : goal.returns-in_err-value-clause-none
returns-in_err-value-clause-none g c = search rules

pub returns-in_err-value-clause-some : goal.returns-in_err-value-clause-some
returns-in_err-value-clause-some g c = search rules

pub returns-clause-none : goal.returns-clause-none
returns-clause-none g c = search rules

pub returns-clause-some : goal.returns-clause-some
returns-clause-some g c = search rules
