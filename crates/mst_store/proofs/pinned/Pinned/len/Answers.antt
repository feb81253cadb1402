use Rattle.mst_store.proofs.Names.{rules}
use Rattle.mst_store.proofs.FewPairs.{counted_at_pin}
use Rattle.mst_store.proofs.pinned.Pinned.len.Goals as goal

pub len-requires : goal.len-requires
len-requires g c =
    let is = c.self.invariant in
    record {
      pinned = is.pinned;
      few = counted_at_pin c.self.inside.parameters c.self.inside.at c.self.inside.seat is;
    }

pub invariant_of-self : goal.invariant_of-self
invariant_of-self g c = search rules

pub returns-clause-found : goal.returns-clause-found
returns-clause-found g c = search rules

pub returns-clause-same : goal.returns-clause-same
returns-clause-same g c = search rules
