use Rattle.mst_versions.proofs.Names.{rules}
use Rattle.mst_versions.proofs.reading.get.Goals as goal

pub get_below-requires : goal.get_below-requires
get_below-requires g c = search rules

pub returns-clause-found : goal.returns-clause-found
returns-clause-found g c = search rules

pub returns-clause-same : goal.returns-clause-same
returns-clause-same g c = search rules
