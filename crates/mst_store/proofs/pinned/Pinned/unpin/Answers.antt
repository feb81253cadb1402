use Rattle.mst_store.proofs.Names.{rules}
use Rattle.mst_store.proofs.pinned.Pinned.unpin.Goals as goal

pub unpin-requires-clause-pinned : goal.unpin-requires-clause-pinned
unpin-requires-clause-pinned g c = search rules

pub unpin-requires-clause-some : goal.unpin-requires-clause-some
unpin-requires-clause-some g c = search rules

pub unpin-requires-clause-few : goal.unpin-requires-clause-few
unpin-requires-clause-few g c = search rules

pub unpin-requires-clause-there : goal.unpin-requires-clause-there
unpin-requires-clause-there g c = search rules

pub invariant_of-result : goal.invariant_of-result
invariant_of-result g c = search rules

pub returns : goal.returns
returns g c = search rules
