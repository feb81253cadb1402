use Rattle.mst_requests.proofs.Names.{arith, rules, common_steps}
use Rattle.mst_requests.proofs.answer.extend_pinned.Goals as goal

pub extend-requires : goal.extend-requires
extend-requires c = search rules

pub extend-requires-2 : goal.extend-requires-2
extend-requires-2 c = grind (arith, common_steps)

pub returns-clause-pinned : goal.returns-clause-pinned
returns-clause-pinned c = grind (arith, common_steps)

pub returns-clause-small : goal.returns-clause-small
returns-clause-small c = grind (arith, common_steps)
