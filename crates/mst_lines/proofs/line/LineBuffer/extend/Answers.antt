use Rattle.std.proofs.Common.{arith, rules}
use Rattle.std.proofs.lemmas.Grind.{common_steps}
use Rattle.mst_lines.proofs.line.LineBuffer.extend.Goals as goal

pub try_extend_from_slice-requires : goal.try_extend_from_slice-requires
try_extend_from_slice-requires c = search rules

pub returns-then-is_err : goal.returns-then-is_err
returns-then-is_err c = grind (arith, common_steps)

pub returns-else-is_err : goal.returns-else-is_err
returns-else-is_err c = search rules
