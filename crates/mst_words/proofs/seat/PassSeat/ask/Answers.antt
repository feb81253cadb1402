use Rattle.mst_words.proofs.Names.{arith, refl, rules}
use Rattle.mst_words.proofs.seat.PassSeat.ask.Goals as goal

pub load_by-requires-clause-own : goal.load_by-requires-clause-own
load_by-requires-clause-own g c = search rules

pub load_by-requires-clause-there : goal.load_by-requires-clause-there
load_by-requires-clause-there g c =
    let e = c.self.invariant.wide in let l = c.requires.few in omega arith

pub load_by-requires-clause-may : goal.load_by-requires-clause-may
load_by-requires-clause-may g c =
    (c.args.which, refl, search rules, search rules, search rules, search rules)

pub load_by-requires-clause-leaves : goal.load_by-requires-clause-leaves
load_by-requires-clause-leaves g c = λ n. refl

pub returns-clause-same : goal.returns-clause-same
returns-clause-same g c = search rules

pub returns-clause-drained : goal.returns-clause-drained
returns-clause-drained g c = search rules

pub returns-clause-blocked : goal.returns-clause-blocked
returns-clause-blocked g c = search rules

pub overflow_add-done : goal.overflow_add-done
overflow_add-done g c = search rules

pub invariant_of-self : goal.invariant_of-self
invariant_of-self g c = search rules
