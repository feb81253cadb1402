use Rattle.mst_arena.proofs.Names.{arith, rules, common_steps}
use Rattle.mst_arena.proofs.desk.Desk.advance.Goals as goal

pub index-requires : goal.index-requires
index-requires g c = search rules

pub overflow_add-next : goal.overflow_add-next
overflow_add-next g c = grind (arith, common_steps)

pub index_mut-requires : goal.index_mut-requires
index_mut-requires g c = search rules

pub invariant_of-self : goal.invariant_of-self
invariant_of-self g c = grind (arith, common_steps)

pub returns : goal.returns
returns g c = grind (arith, common_steps)
