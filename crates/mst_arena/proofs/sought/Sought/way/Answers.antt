use Rattle.mst_arena.proofs.Names.{rules}
use Rattle.mst_arena.proofs.sought.Sought.way.Goals as goal

pub returns-in-Less : goal.returns-in-Less
returns-in-Less c = search rules

pub returns-in-Equal : goal.returns-in-Equal
returns-in-Equal c = search rules

pub returns-in-Greater : goal.returns-in-Greater
returns-in-Greater c = search rules
