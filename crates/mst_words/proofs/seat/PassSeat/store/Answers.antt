use Rattle.mst_words.proofs.Names.{rules}
use Rattle.mst_words.proofs.seat.PassSeat.store.Goals as goal

pub store-requires-clause-own : goal.store-requires-clause-own
store-requires-clause-own g c = search rules

pub store-requires-clause-there : goal.store-requires-clause-there
store-requires-clause-there g c = search rules

pub store-requires-clause-holder : goal.store-requires-clause-holder
store-requires-clause-holder g c = search rules

pub store-requires-clause-writable : goal.store-requires-clause-writable
store-requires-clause-writable g c = search rules

pub returns : goal.returns
returns g c = search rules

pub invariant_of-self : goal.invariant_of-self
invariant_of-self g c = search rules
