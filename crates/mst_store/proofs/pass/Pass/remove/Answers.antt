use Rattle.mst_store.proofs.Names.{rules}
use Rattle.mst_store.proofs.Waits.{tried_again, wrote_then, refused_then}
use Rattle.mst_store.proofs.pass.Pass.remove.Goals as goal

pub returns-in-Ok-clause-ok : goal.returns-in-Ok-clause-ok
returns-in-Ok-clause-ok g c = search (rules, wrote_then)

pub returns-in-Ok-clause-err : goal.returns-in-Ok-clause-err
returns-in-Ok-clause-err g c = search rules

pub loop-preserved : goal.loop-preserved
loop-preserved g c = search (rules, tried_again)

pub returns-in-Err-VersionsSpent-clause-ok : goal.returns-in-Err-VersionsSpent-clause-ok
returns-in-Err-VersionsSpent-clause-ok g c = search rules

pub returns-in-Err-VersionsSpent-clause-err : goal.returns-in-Err-VersionsSpent-clause-err
returns-in-Err-VersionsSpent-clause-err g c = search (rules, refused_then)

pub returns-in-Err-NoRoom-clause-ok : goal.returns-in-Err-NoRoom-clause-ok
returns-in-Err-NoRoom-clause-ok g c = search rules

pub returns-in-Err-NoRoom-clause-err : goal.returns-in-Err-NoRoom-clause-err
returns-in-Err-NoRoom-clause-err g c = search (rules, refused_then)
