use Rattle.mst_c.proofs.Names.{rules}
use Rattle.mst_c.proofs.telling.try_remove.Goals as goal

pub returns-in-Ok-wrote : goal.returns-in-Ok-wrote
returns-in-Ok-wrote c = search rules

pub returns-in-Err : goal.returns-in-Err
returns-in-Err c = search rules
