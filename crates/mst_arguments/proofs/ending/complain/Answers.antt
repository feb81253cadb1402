use Rattle.std.proofs.Common.{arith, rules}
use Rattle.std.proofs.lemmas.Grind.{elements}
use Rattle.mst_arguments.proofs.ending.complain.Goals as goal

pub as_bytes-requires-text-self : goal.as_bytes-requires-text-self
as_bytes-requires-text-self g c = search rules

pub write_all-requires : goal.write_all-requires
write_all-requires g c = search rules

pub returns-in_default-Memory-clause-status : goal.returns-in_default-Memory-clause-status
returns-in_default-Memory-clause-status g c = search rules

pub returns-in_default-Memory-clause-told : goal.returns-in_default-Memory-clause-told
returns-in_default-Memory-clause-told g c = search rules

pub returns-in_default-Memory-clause-failed : goal.returns-in_default-Memory-clause-failed
returns-in_default-Memory-clause-failed g c = search rules

pub returns-in_default : goal.returns-in_default
returns-in_default g c = grind (arith, elements)

pub returns-in-Err-default-clause-status : goal.returns-in-Err-default-clause-status
returns-in-Err-default-clause-status g c = search rules

pub returns-in-Err-default-clause-told : goal.returns-in-Err-default-clause-told
returns-in-Err-default-clause-told g c = search rules

pub returns-in-Err-default-clause-failed : goal.returns-in-Err-default-clause-failed
returns-in-Err-default-clause-failed g c = search rules

pub returns-in-Err-default-2-clause-status : goal.returns-in-Err-default-2-clause-status
returns-in-Err-default-2-clause-status g c = search rules

pub returns-in-Err-default-2-clause-told : goal.returns-in-Err-default-2-clause-told
returns-in-Err-default-2-clause-told g c = search rules

pub returns-in-Err-default-2-clause-failed : goal.returns-in-Err-default-2-clause-failed
returns-in-Err-default-2-clause-failed g c = search rules

pub returns-in_default-Memory-clause-broke : goal.returns-in_default-Memory-clause-broke
returns-in_default-Memory-clause-broke g c = search rules

pub returns-in-Err-default-clause-broke : goal.returns-in-Err-default-clause-broke
returns-in-Err-default-clause-broke g c = search rules

pub returns-in-Err-default-2-clause-broke : goal.returns-in-Err-default-2-clause-broke
returns-in-Err-default-2-clause-broke g c = search rules
