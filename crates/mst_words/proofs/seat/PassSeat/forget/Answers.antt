use Rattle.mst_words.proofs.Names.{ℕ, ◌-◌, ◌^◌, bit_xor, sym, ◌∙◌, ap, arith, refl, rules, IsPinned}
use Rattle.mst_words.proofs.seat.PassSeat.forget.Goals as goal

pub xor_by-requires-clause-own : goal.xor_by-requires-clause-own
xor_by-requires-clause-own g c = search rules

pub xor_by-requires-clause-there : goal.xor_by-requires-clause-there
xor_by-requires-clause-there g c = let e = c.self.invariant.wide in let l = c.requires.there in
    omega arith

pub xor_by-requires-clause-may : goal.xor_by-requires-clause-may
xor_by-requires-clause-may g c =
    let p : IsPinned c.args.number c.args.which c.self.inside.token.me = search rules in
    ((c.args.which, p.0, refl), p.1)

pub xor_by-requires-clause-turns : goal.xor_by-requires-clause-turns
xor_by-requires-clause-turns g c =
    let p : IsPinned c.args.number c.args.which c.self.inside.token.me = search rules in
    λ n. ap (λ (b : ℕ). bit_xor n b)
    (ap (λ (q : ℕ). 2 ^ (q - 1)) p.2 ∙ sym c.bit_of-bit.ensures.bit)

pub bit_of-bit-requires-clause-some : goal.bit_of-bit-requires-clause-some
bit_of-bit-requires-clause-some g c = search rules

pub bit_of-bit-requires-clause-few : goal.bit_of-bit-requires-clause-few
bit_of-bit-requires-clause-few g c = search rules

pub returns-clause-same : goal.returns-clause-same
returns-clause-same g c = search rules

pub returns-clause-free : goal.returns-clause-free
returns-clause-free g c = search rules

pub overflow_add-done : goal.overflow_add-done
overflow_add-done g c = search rules

pub invariant_of-self : goal.invariant_of-self
invariant_of-self g c = search rules
