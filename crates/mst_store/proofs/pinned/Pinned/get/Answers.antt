use Rattle.mst_store.proofs.Names.{rules}
use Rattle.mst_store.proofs.pinned.Pinned.get.Goals as goal

pub get-requires : goal.get-requires
get-requires g c = search rules

pub invariant_of-self : goal.invariant_of-self
invariant_of-self g c = search rules

pub returns-clause-found : goal.returns-clause-found
returns-clause-found g c = search rules

pub returns-clause-same : goal.returns-clause-same
returns-clause-same g c = search rules
