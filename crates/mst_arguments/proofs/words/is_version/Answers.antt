use Rattle.std.proofs.Common.{arith, rules}
use Rattle.std.proofs.lemmas.Grind.{common_steps}
use Rattle.mst_arguments.proofs.words.is_version.Goals as goal

pub bounds-0 : goal.bounds-0
bounds-0 c = search rules

pub bounds-1 : goal.bounds-1
bounds-1 c = search rules

pub returns-in-45 : goal.returns-in-45
returns-in-45 c = grind (arith, common_steps)

pub returns-in_default : goal.returns-in_default
returns-in_default c = search rules
