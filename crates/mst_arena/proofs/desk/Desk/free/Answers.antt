use Rattle.mst_arena.proofs.Names.{arith, rules, common_steps}
use Rattle.mst_arena.proofs.desk.Desk.free.Goals as goal

pub returns-clause-count : goal.returns-clause-count
returns-clause-count g c = grind (arith, common_steps)

pub returns-clause-few : goal.returns-clause-few
returns-clause-few g c = search rules
