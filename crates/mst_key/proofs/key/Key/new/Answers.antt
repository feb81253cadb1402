use Rattle.mst_key.proofs.Names.{arith, rules, elements}
use Rattle.mst_key.proofs.key.Key.new.Goals as goal

pub returns-then-is_empty-clause-ok : goal.returns-then-is_empty-clause-ok
returns-then-is_empty-clause-ok c = search rules

pub returns-then-is_empty-clause-when : goal.returns-then-is_empty-clause-when
returns-then-is_empty-clause-when c = search rules

pub try_from-requires : goal.try_from-requires
try_from-requires c = search rules

pub invariant_of-result : goal.invariant_of-result
invariant_of-result c = grind (arith, elements)

pub returns-in-Ok-clause-ok : goal.returns-in-Ok-clause-ok
returns-in-Ok-clause-ok c = search rules

pub returns-in-Ok-clause-when : goal.returns-in-Ok-clause-when
returns-in-Ok-clause-when c = search rules

pub returns-in-Err-clause-ok : goal.returns-in-Err-clause-ok
returns-in-Err-clause-ok c = search rules

pub returns-in-Err-clause-when : goal.returns-in-Err-clause-when
returns-in-Err-clause-when c = search rules
