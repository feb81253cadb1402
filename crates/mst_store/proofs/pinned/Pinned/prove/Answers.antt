use Rattle.mst_store.proofs.Names.{rules}
use Rattle.mst_store.proofs.pinned.Pinned.prove.Goals as goal

pub prove-requires : goal.prove-requires
prove-requires g c = search rules

pub invariant_of-self : goal.invariant_of-self
invariant_of-self g c = search rules

pub returns-clause-found : goal.returns-clause-found
returns-clause-found g c = search rules

pub returns-clause-short : goal.returns-clause-short
returns-clause-short g c = search rules

pub returns-clause-same : goal.returns-clause-same
returns-clause-same g c = search rules
