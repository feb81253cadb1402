use Rattle.std.proofs.Common.{arith, rules}
use Rattle.std.proofs.lemmas.Grind.{common_steps}
use Rattle.mst_lines.proofs.line.LineBuffer.is_empty.Goals as goal

pub is_empty-requires : goal.is_empty-requires
is_empty-requires c = search rules

pub returns-then-not-self : goal.returns-then-not-self
returns-then-not-self c = grind (arith, common_steps)

pub returns-else-not-self : goal.returns-else-not-self
returns-else-not-self c = search rules
