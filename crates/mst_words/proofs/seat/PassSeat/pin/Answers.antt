use Rattle.mst_words.proofs.Names.{◌≡◌, ℕ, ◌-◌, ◌/◌, ◌^◌, Option, bit_xor, sym, subst, ◌∙◌, ap, arith, refl, rules, Me, View, Seated, IsFree, stored}
use Rattle.mst_arena.specs.Lives.{State}
use Rattle.mst_words.specs.Steps.{PinsNow}
use Rattle.mst_words.proofs.ByDeed.{own_free}
use Rattle.mst_words.proofs.seat.PassSeat.pin.Goals as goal

pub xor_by-found-requires-clause-own : goal.xor_by-found-requires-clause-own
xor_by-found-requires-clause-own g c = search rules

pub xor_by-found-requires-clause-there : goal.xor_by-found-requires-clause-there
xor_by-found-requires-clause-there g c = let e = c.self.invariant.wide in omega arith

pub xor_by-found-requires-clause-may : goal.xor_by-found-requires-clause-may
xor_by-found-requires-clause-may g c = (
  refl,
  own_free c.args.number c.self.inside.token.me (search rules),
)

pub xor_by-found-requires-clause-turns : goal.xor_by-found-requires-clause-turns
xor_by-found-requires-clause-turns g c =
    let free : IsFree c.args.number c.self.inside.token.me = search rules in
    λ n. ap (λ (b : ℕ). bit_xor n b)
    (ap (λ (p : ℕ). 2 ^ (p - 1)) free.3 ∙ sym c.bit_of-bit.ensures.bit)

pub returns-clause-pinned : goal.returns-clause-pinned
returns-clause-pinned g c =
    let p = c.xor_by-found.ensures.tells.1 in
    let s = p.small in
    let f = p.found_is in
    subst (λ (m : Me (Option State) View). (x : ℕ)
    × (q : PinsNow {S = Option State} (stored m.0.format) m x c.xor_by-found.new.seat.me)
    × (q.cur ≡ c.xor_by-found.result / 2 ^ 32)) (ap (λ (z : Seated). z.me) c.self.view_is)
    (c.xor_by-found.result, p, omega arith)

pub bit_of-bit-requires-clause-some : goal.bit_of-bit-requires-clause-some
bit_of-bit-requires-clause-some g c = search rules

pub bit_of-bit-requires-clause-few : goal.bit_of-bit-requires-clause-few
bit_of-bit-requires-clause-few g c = search rules

pub returns-clause-same : goal.returns-clause-same
returns-clause-same g c = search rules

pub overflow_cast-result : goal.overflow_cast-result
overflow_cast-result g c = search rules

pub invariant_of-self : goal.invariant_of-self
invariant_of-self g c = search rules
