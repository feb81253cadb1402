use Rattle.mst_c.proofs.Names.{rules, arith, ◌≡◌, ◌<◌, ◌+◌, ℕ, get_or, length, sym, ap, ◌∙◌, Known, Free, PaddedHand}
use Rattle.std.proofs.Common.{Some, slice_set, below_more}
use Rattle.std.proofs.lemmas.List.{get_or-set_same, get_or-set_other, length-set}
use Rattle.mst_c.proofs.opening.hand_all.Goals as goal

-- the pass that is handed out next stands first among the rest, and its hand is the next
pub loop-pass-preserved : goal.loop-pass-preserved
loop-pass-preserved c =
    let was = c.loop-pass.invariant in let at : ℕ = c.loop-pass.at in
    let first : (d : Known) → get_or c.args.passes.items at d ≡ c.in-Some.pass =
    (λ d. let h = was.1 0 d in grind rules) in
    let put : PaddedHand = c.hand_next-all.new.hand in
    let within : at < length c.loop-pass.hands = search rules in (
      search rules,
      (λ k d below. let h = was.1 (k + 1) d in grind rules),
      (λ yes k d h below.
          below_more (λ i. (get_or (slice_set c.loop-pass.hands at put) i h).hand.held ≡ Some
          (Free (get_or c.args.passes.items i d))) at
          (λ i low. ap (λ (x : PaddedHand). x.hand.held)
          (get_or-set_other c.loop-pass.hands at i put h (λ z. omega (arith, z, low)))
          ∙ was.2 (c.hand_next-all.ensures.all yes) i d h low)
          (ap (λ (x : PaddedHand). x.hand.held) (get_or-set_same c.loop-pass.hands at put h within)
          ∙ c.hand_next-all.ensures.held yes ∙ ap (λ (p : Known). Some (Free p)) (sym (first d)))
          k below),
      (λ k h from below.
          let long = length-set c.loop-pass.hands at put in
          ap (λ (x : PaddedHand). x.hand.held)
          (get_or-set_other c.loop-pass.hands at k put h (λ z. omega (arith, z, from)))
          ∙ was.3 k h (omega (arith, from)) (omega (arith, below, long))),
    )
