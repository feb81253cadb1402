use Rattle.std.proofs.Common.{rules}
use Rattle.mst_command.proofs.loading.is_load_size.Goals as goal

pub returns-then-contains-2 : goal.returns-then-contains-2
returns-then-contains-2 c = search rules

pub returns-else-contains-2 : goal.returns-else-contains-2
returns-else-contains-2 c = search rules
