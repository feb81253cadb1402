use Rattle.mst_read.proofs.Names.{rules}
use Rattle.mst_read.proofs.roots.root.Goals as goal

pub returns-clause-digest : goal.returns-clause-digest
returns-clause-digest g c = search rules

pub returns-clause-same : goal.returns-clause-same
returns-clause-same g c = search rules
