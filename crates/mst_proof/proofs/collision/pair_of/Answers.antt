use Rattle.mst_proof.proofs.Names.{rules}
use Rattle.mst_proof.proofs.collision.pair_of.Goals as goal

pub returns-then-not-is_collision-clause-none : goal.returns-then-not-is_collision-clause-none
returns-then-not-is_collision-clause-none g c = search rules

pub returns-then-not-is_collision-clause-some : goal.returns-then-not-is_collision-clause-some
returns-then-not-is_collision-clause-some g c = search rules

pub returns-then-not-is_collision-clause-memory : goal.returns-then-not-is_collision-clause-memory
returns-then-not-is_collision-clause-memory g c = search rules

pub returns-in_err-one-clause-none : goal.returns-in_err-one-clause-none
returns-in_err-one-clause-none g c = search rules

pub returns-in_err-one-clause-some : goal.returns-in_err-one-clause-some
returns-in_err-one-clause-some g c = search rules

pub returns-in_err-one-clause-memory : goal.returns-in_err-one-clause-memory
returns-in_err-one-clause-memory g c = search rules

pub returns-clause-none : goal.returns-clause-none
returns-clause-none g c = search rules

pub returns-clause-some : goal.returns-clause-some
returns-clause-some g c = search rules

pub returns-clause-memory : goal.returns-clause-memory
returns-clause-memory g c = search rules
