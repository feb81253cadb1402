use Rattle.mst_requests.proofs.Names.{arith, rules, common_steps}
use Rattle.mst_requests.proofs.answer.extend_rows.Goals as goal

pub extend-requires : goal.extend-requires
extend-requires c = search rules

pub returns-in_default-clause-rows : goal.returns-in_default-clause-rows
returns-in_default-clause-rows c = search rules

pub returns-in_default-clause-small : goal.returns-in_default-clause-small
returns-in_default-clause-small c = grind (arith, common_steps)

pub extend-requires-2 : goal.extend-requires-2
extend-requires-2 c = search rules

pub extend-requires-3 : goal.extend-requires-3
extend-requires-3 c = grind (arith, common_steps)

pub returns-clause-rows : goal.returns-clause-rows
returns-clause-rows c = grind (arith, common_steps)

pub returns-clause-small : goal.returns-clause-small
returns-clause-small c = grind (arith, common_steps)
