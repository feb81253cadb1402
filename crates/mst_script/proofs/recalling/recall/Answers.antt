use Rattle.mst_script.proofs.Names.{rules}
use Rattle.mst_script.proofs.recalling.recall.Goals as goal

pub returns-in-Get-clause-found : goal.returns-in-Get-clause-found
returns-in-Get-clause-found g c = search rules

pub returns-in-Get-clause-same : goal.returns-in-Get-clause-same
returns-in-Get-clause-same g c = search rules

pub returns-in-Next-clause-found : goal.returns-in-Next-clause-found
returns-in-Next-clause-found g c = search rules

pub returns-in-Next-clause-same : goal.returns-in-Next-clause-same
returns-in-Next-clause-same g c = search rules

pub returns-in-Range-clause-found : goal.returns-in-Range-clause-found
returns-in-Range-clause-found g c = search rules

pub returns-in-Range-clause-same : goal.returns-in-Range-clause-same
returns-in-Range-clause-same g c = search rules

pub returns-in-Root-clause-found : goal.returns-in-Root-clause-found
returns-in-Root-clause-found g c = search rules

pub returns-in-Root-clause-same : goal.returns-in-Root-clause-same
returns-in-Root-clause-same g c = search rules

pub returns-in-Node-clause-found : goal.returns-in-Node-clause-found
returns-in-Node-clause-found g c = search rules

pub returns-in-Node-clause-same : goal.returns-in-Node-clause-same
returns-in-Node-clause-same g c = search rules

pub returns-in-Prove-clause-found : goal.returns-in-Prove-clause-found
returns-in-Prove-clause-found g c = search rules

pub returns-in-Prove-clause-same : goal.returns-in-Prove-clause-same
returns-in-Prove-clause-same g c = search rules

pub returns-in-Format-clause-found : goal.returns-in-Format-clause-found
returns-in-Format-clause-found g c = search rules

pub returns-in-Format-clause-same : goal.returns-in-Format-clause-same
returns-in-Format-clause-same g c = search rules

pub returns-in-Put-clause-found : goal.returns-in-Put-clause-found
returns-in-Put-clause-found g c = search rules

pub returns-in-Put-clause-same : goal.returns-in-Put-clause-same
returns-in-Put-clause-same g c = search rules
