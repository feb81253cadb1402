use Rattle.mst_snapshots.proofs.Numbered.{rise, one_directory}
use Rattle.mst_snapshots.proofs.laws.number_laws.Goals as goal

pub returns-clause-rise : goal.returns-clause-rise
returns-clause-rise c = rise

pub returns-clause-same : goal.returns-clause-same
returns-clause-same c = one_directory

pub returns-clause-later : goal.returns-clause-later
returns-clause-later c = λ w v seen. seen.directory
