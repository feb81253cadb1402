use Rattle.mst_arena.proofs.Names.{arith, rules, common_steps}
use Rattle.mst_arena.proofs.desk.Desk.current.Goals as goal

pub index-requires : goal.index-requires
index-requires g c = search rules

pub returns : goal.returns
returns g c = grind (arith, common_steps)
