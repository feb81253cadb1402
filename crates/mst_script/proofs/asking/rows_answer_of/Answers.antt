use Rattle.mst_script.proofs.Names.{rules}
use Rattle.mst_script.proofs.asking.rows_answer_of.Goals as goal

pub returns-in-Ok : goal.returns-in-Ok
returns-in-Ok g c = search rules

pub returns-in-Err : goal.returns-in-Err
returns-in-Err g c = search rules
