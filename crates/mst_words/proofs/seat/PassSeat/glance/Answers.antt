use Rattle.mst_words.proofs.Names.{refl, rules}
use Rattle.mst_words.proofs.seat.PassSeat.glance.Goals as goal

pub load_by-requires-clause-own : goal.load_by-requires-clause-own
load_by-requires-clause-own g c = search rules

pub load_by-requires-clause-there : goal.load_by-requires-clause-there
load_by-requires-clause-there g c = search rules

pub load_by-requires-clause-may : goal.load_by-requires-clause-may
load_by-requires-clause-may g c = search rules

pub load_by-requires-clause-leaves : goal.load_by-requires-clause-leaves
load_by-requires-clause-leaves g c = λ n. refl

pub returns-clause-same : goal.returns-clause-same
returns-clause-same g c = search rules

pub returns-clause-counted : goal.returns-clause-counted
returns-clause-counted g c = search rules

pub invariant_of-self : goal.invariant_of-self
invariant_of-self g c = search rules
