use Rattle.mst_key.proofs.Names.{arith, rules, elements}
use Rattle.mst_key.proofs.value.Value.new.Goals as goal

pub try_from-requires : goal.try_from-requires
try_from-requires c = search rules

pub invariant_of-result : goal.invariant_of-result
invariant_of-result c = grind (arith, elements)

pub returns-in-Ok-clause-ok : goal.returns-in-Ok-clause-ok
returns-in-Ok-clause-ok c = search rules

pub returns-in-Ok-clause-when : goal.returns-in-Ok-clause-when
returns-in-Ok-clause-when c = search rules

pub returns-in-Err-clause-ok : goal.returns-in-Err-clause-ok
returns-in-Err-clause-ok c = search rules

pub returns-in-Err-clause-when : goal.returns-in-Err-clause-when
returns-in-Err-clause-when c = search rules
