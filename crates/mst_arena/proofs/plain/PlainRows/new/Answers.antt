use Rattle.mst_arena.proofs.Names.{arith, rules, common_steps}
use Rattle.mst_arena.proofs.plain.PlainRows.new.Goals as goal

pub returns-in_err-places : goal.returns-in_err-places
returns-in_err-places g c = search rules

pub loop-init : goal.loop-init
loop-init g c = search rules

pub push_reserved-requires : goal.push_reserved-requires
push_reserved-requires g c = search rules

pub loop-preserved : goal.loop-preserved
loop-preserved g c = grind (arith, common_steps)

pub returns : goal.returns
returns g c = search rules
