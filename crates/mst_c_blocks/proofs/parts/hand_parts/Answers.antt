use Rattle.mst_c_blocks.proofs.Names.{rules, arith, ◌≡◌, ◌<◌, ◌+◌, ℕ, get_or, length, slice_set, sym, ap, ◌∙◌, below_more, get_or-set_same, get_or-set_other, length-set, Origin, PaddedBlocksHand}
use Rattle.std.proofs.Common.{Some}
use Rattle.mst_c_blocks.specs.declared.role_box.Role.TheVariants.{Part}
use Rattle.mst_c_blocks.proofs.parts.hand_parts.Goals as goal

-- the part that is handed out next is the first among the rest, and its hand is the next one
pub loop-part-preserved : goal.loop-part-preserved
loop-part-preserved c =
    let was = c.loop-part.invariant in let at : ℕ = c.loop-part.at in
    let first : (o : Origin) → get_or c.args.parts.items at o ≡ c.in-Some.part =
    (λ o. let h = was.2 0 o in grind rules) in
    let put : PaddedBlocksHand = c.hand_part.new.hand in
    let within : at < length c.loop-part.hands = search rules in
    let long = length-set c.loop-part.hands at put in (
      search rules,
      search rules,
      (λ k o below. let h = was.2 (k + 1) o in grind rules),
      (λ k o h below.
          below_more (λ i. (get_or (slice_set c.loop-part.hands at put) i h).hand.held
          ≡ Some (Part (Some (get_or c.args.parts.items i o)))) at
          (λ i low. ap (λ (x : PaddedBlocksHand). x.hand.held)
          (get_or-set_other c.loop-part.hands at i put h (λ z. omega (arith, z, low)))
          ∙ was.3 i o h low)
          (ap (λ (x : PaddedBlocksHand). x.hand.held)
          (get_or-set_same c.loop-part.hands at put h within)
          ∙ c.hand_part.ensures.held
          ∙ ap (λ (x : Origin). Some (Part (Some x))) (sym (first o)))
          k below),
      (λ k h from below.
          ap (λ (x : PaddedBlocksHand). x.hand.held)
          (get_or-set_other c.loop-part.hands at k put h (λ z. omega (arith, z, from)))
          ∙ was.4 k h (omega (arith, from)) (omega (arith, below, long))),
    )
