use Rattle.mst_arena.proofs.Names.{arith, rules, common_steps}
use Rattle.mst_arena.proofs.desk.Desk.next_version.Goals as goal

pub index-version-requires : goal.index-version-requires
index-version-requires g c = search rules

pub overflow_add-result : goal.overflow_add-result
overflow_add-result g c = grind (arith, common_steps)

pub returns-then-version-eq-LAST_VERSION : goal.returns-then-version-eq-LAST_VERSION
returns-then-version-eq-LAST_VERSION g c = grind (arith, common_steps)

pub returns-else-version-eq-LAST_VERSION : goal.returns-else-version-eq-LAST_VERSION
returns-else-version-eq-LAST_VERSION g c = grind (arith, common_steps)
