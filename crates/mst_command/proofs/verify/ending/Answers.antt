use Rattle.std.proofs.Common.{rules}
use Rattle.mst_command.proofs.verify.ending.Goals as goal

pub returns-then-is_refusal : goal.returns-then-is_refusal
returns-then-is_refusal c = search rules

pub returns-else-is_refusal : goal.returns-else-is_refusal
returns-else-is_refusal c = search rules
