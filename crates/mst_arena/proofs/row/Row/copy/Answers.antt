use Rattle.mst_arena.proofs.Names.{rules}
use Rattle.mst_arena.proofs.row.Row.copy.Goals as goal

pub returns-in-Entry : goal.returns-in-Entry
returns-in-Entry c = search rules

pub returns-in-Head : goal.returns-in-Head
returns-in-Head c = search rules
