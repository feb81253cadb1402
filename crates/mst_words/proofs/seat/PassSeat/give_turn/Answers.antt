use Rattle.mst_words.proofs.Names.{arith, refl, rules}
use Rattle.mst_words.proofs.seat.PassSeat.give_turn.Goals as goal

pub store_by-requires-clause-own : goal.store_by-requires-clause-own
store_by-requires-clause-own g c = search rules

pub store_by-requires-clause-there : goal.store_by-requires-clause-there
store_by-requires-clause-there g c = let e = c.self.invariant.wide in omega arith

pub store_by-requires-clause-may : goal.store_by-requires-clause-may
store_by-requires-clause-may g c = (refl, search rules)

pub store_by-requires-clause-stores : goal.store_by-requires-clause-stores
store_by-requires-clause-stores g c = λ n. refl

pub store_by-requires-clause-blind : goal.store_by-requires-clause-blind
store_by-requires-clause-blind g c = λ n m t. t

pub returns-clause-same : goal.returns-clause-same
returns-clause-same g c = search rules

pub returns-clause-gave : goal.returns-clause-gave
returns-clause-gave g c = search rules

pub invariant_of-self : goal.invariant_of-self
invariant_of-self g c = search rules
