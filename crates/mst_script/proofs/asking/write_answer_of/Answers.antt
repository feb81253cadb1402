use Rattle.mst_script.proofs.Names.{rules}
use Rattle.mst_script.proofs.asking.write_answer_of.Goals as goal

pub returns-in-Ok : goal.returns-in-Ok
returns-in-Ok g c = search rules

pub returns-in-Err-Busy : goal.returns-in-Err-Busy
returns-in-Err-Busy g c = search rules

pub returns-in-Err-VersionsSpent : goal.returns-in-Err-VersionsSpent
returns-in-Err-VersionsSpent g c = search rules

pub returns-in-Err-NoRoom : goal.returns-in-Err-NoRoom
returns-in-Err-NoRoom g c = search rules
