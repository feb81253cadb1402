use Rattle.mst_c.proofs.Names.{rules}
use Rattle.mst_c.proofs.knowing.tell_made.Goals as goal

pub returns-in-None : goal.returns-in-None
returns-in-None c = search rules
