use Rattle.mst_words.proofs.Names.{ℕ, eqb, cond, sym, ◌∙◌, ap, arith, refl, rules, IsFree}
use Rattle.mst_words.proofs.ByDeed.{own_free}
use Rattle.mst_words.proofs.seat.PassSeat.take_turn.Goals as goal

pub claim_by-requires-clause-own : goal.claim_by-requires-clause-own
claim_by-requires-clause-own g c = search rules

pub claim_by-requires-clause-there : goal.claim_by-requires-clause-there
claim_by-requires-clause-there g c = let e = c.self.invariant.wide in omega arith

pub claim_by-requires-clause-may : goal.claim_by-requires-clause-may
claim_by-requires-clause-may g c = (
  refl,
  own_free c.args.number c.self.inside.token.me (search rules),
)

pub claim_by-requires-clause-claims : goal.claim_by-requires-clause-claims
claim_by-requires-clause-claims g c =
    let free : IsFree c.args.number c.self.inside.token.me = search rules in
    λ n. ap (λ (p : ℕ). cond (eqb n 0) p n) (free.3 ∙ sym c.from.ensures)

pub returns-clause-same : goal.returns-clause-same
returns-clause-same g c = search rules

pub returns-clause-taken : goal.returns-clause-taken
returns-clause-taken g c = search rules

pub returns-clause-missed : goal.returns-clause-missed
returns-clause-missed g c = search rules

pub invariant_of-self : goal.invariant_of-self
invariant_of-self g c = search rules
