use Rattle.mst_c.proofs.Names.{rules}
use Rattle.mst_c.proofs.telling.tell_rows.Goals as goal

pub returns-in-Ok-None : goal.returns-in-Ok-None
returns-in-Ok-None c = search rules
