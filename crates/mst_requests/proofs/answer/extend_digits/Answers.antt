use Rattle.mst_requests.proofs.Names.{arith, rules, common_steps}
use Rattle.mst_requests.proofs.answer.extend_digits.Goals as goal

pub extend-requires : goal.extend-requires
extend-requires c = search rules

pub returns-then-is_empty-clause-digits : goal.returns-then-is_empty-clause-digits
returns-then-is_empty-clause-digits c = search rules

pub returns-then-is_empty-clause-small : goal.returns-then-is_empty-clause-small
returns-then-is_empty-clause-small c = grind (arith, common_steps)

pub extend_hex-requires-clause-few : goal.extend_hex-requires-clause-few
extend_hex-requires-clause-few c = search rules

pub extend_hex-requires-clause-room : goal.extend_hex-requires-clause-room
extend_hex-requires-clause-room c = search rules

pub returns-clause-digits : goal.returns-clause-digits
returns-clause-digits c = search rules

pub returns-clause-small : goal.returns-clause-small
returns-clause-small c = search rules
