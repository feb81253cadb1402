use Rattle.mst_requests.proofs.Names.{arith, rules, common_steps}
use Rattle.mst_requests.proofs.answer.extend_pair.Goals as goal

pub extend-requires : goal.extend-requires
extend-requires c = search rules

pub extend_digits-requires-clause-few : goal.extend_digits-requires-clause-few
extend_digits-requires-clause-few c = search rules

pub extend_digits-requires-clause-room : goal.extend_digits-requires-clause-room
extend_digits-requires-clause-room c = grind (arith, common_steps)

pub extend-requires-2 : goal.extend-requires-2
extend-requires-2 c = grind (arith, common_steps)

pub extend_digits-requires-2-clause-few : goal.extend_digits-requires-2-clause-few
extend_digits-requires-2-clause-few c = search rules

pub extend_digits-requires-2-clause-room : goal.extend_digits-requires-2-clause-room
extend_digits-requires-2-clause-room c = grind (arith, common_steps)

pub returns-clause-pair : goal.returns-clause-pair
returns-clause-pair c = grind (arith, common_steps)

pub returns-clause-small : goal.returns-clause-small
returns-clause-small c = grind (arith, common_steps)
