use Rattle.mst_arena.proofs.Names.{rules}
use Rattle.mst_arena.proofs.sought.Sought.words.Goals as goal

pub returns : goal.returns
returns c = search rules
