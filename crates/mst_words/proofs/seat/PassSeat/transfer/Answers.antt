use Rattle.mst_words.proofs.Names.{◌≡◌, ℕ, bit_xor, true, Some, sym, ap, arith, refl, rules}
use Rattle.mst_words.proofs.seat.PassSeat.transfer.Goals as goal

pub xor_by-requires-clause-own : goal.xor_by-requires-clause-own
xor_by-requires-clause-own g c = search rules

pub xor_by-requires-clause-there : goal.xor_by-requires-clause-there
xor_by-requires-clause-there g c = let e = c.self.invariant.wide in let l = c.requires.there in
    omega arith

pub xor_by-requires-clause-may : goal.xor_by-requires-clause-may
xor_by-requires-clause-may g c =
    let turn : c.self.inside.token.me.0.turn ≡ true = search rules in
    let due : c.self.inside.token.me.0.due ≡ Some c.args.old = search rules in
    ((c.args.old, due, refl), turn)

pub xor_by-requires-clause-turns : goal.xor_by-requires-clause-turns
xor_by-requires-clause-turns g c =
    let mask : c.args.mask ≡ c.self.inside.token.me.0.mask = search rules in
    λ n. ap (λ (b : ℕ). bit_xor n b) (sym mask)

pub returns-clause-same : goal.returns-clause-same
returns-clause-same g c = search rules

pub returns-clause-settled : goal.returns-clause-settled
returns-clause-settled g c = search rules

pub overflow_add-done : goal.overflow_add-done
overflow_add-done g c = search rules

pub invariant_of-self : goal.invariant_of-self
invariant_of-self g c = search rules
