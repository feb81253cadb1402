use Rattle.mst_c.proofs.Names.{rules}
use Rattle.mst_c.proofs.batches.try_apply.Goals as goal

pub returns : goal.returns
returns c = search rules

pub returns-in-Err : goal.returns-in-Err
returns-in-Err c = search rules
