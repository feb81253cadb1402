use Rattle.mst_arena.proofs.Names.{rules}
use Rattle.mst_arena.proofs.row.Row.is_within_limits.Goals as goal

pub returns-then-child-le-HIGHEST_LINK : goal.returns-then-child-le-HIGHEST_LINK
returns-then-child-le-HIGHEST_LINK c = search rules

pub returns-else-child-le-HIGHEST_LINK : goal.returns-else-child-le-HIGHEST_LINK
returns-else-child-le-HIGHEST_LINK c = search rules

pub returns-then-contains-2 : goal.returns-then-contains-2
returns-then-contains-2 c = search rules

pub returns-else-contains-2 : goal.returns-else-contains-2
returns-else-contains-2 c = search rules
