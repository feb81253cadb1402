use Rattle.mst_words.proofs.Names.{arith, refl, rules}
use Rattle.mst_words.proofs.seat.PassSeat.note_current.Goals as goal

pub load_by-requires-clause-own : goal.load_by-requires-clause-own
load_by-requires-clause-own g c = search rules

pub load_by-requires-clause-there : goal.load_by-requires-clause-there
load_by-requires-clause-there g c = let e = c.self.invariant.wide in omega arith

pub load_by-requires-clause-may : goal.load_by-requires-clause-may
load_by-requires-clause-may g c = (refl, search rules)

pub load_by-requires-clause-leaves : goal.load_by-requires-clause-leaves
load_by-requires-clause-leaves g c = λ n. refl

pub returns-clause-same : goal.returns-clause-same
returns-clause-same g c = search rules

pub returns-clause-noted : goal.returns-clause-noted
returns-clause-noted g c = search rules

pub invariant_of-self : goal.invariant_of-self
invariant_of-self g c = search rules
