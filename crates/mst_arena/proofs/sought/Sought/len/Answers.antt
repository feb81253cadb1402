use Rattle.mst_arena.proofs.Names.{rules}
use Rattle.mst_arena.proofs.sought.Sought.len.Goals as goal

pub returns-clause-count : goal.returns-clause-count
returns-clause-count c = search rules

pub returns-clause-limits : goal.returns-clause-limits
returns-clause-limits c = search rules

pub returns-clause-range : goal.returns-clause-range
returns-clause-range c = search rules
