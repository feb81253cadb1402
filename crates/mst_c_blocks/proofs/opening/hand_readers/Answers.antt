use Rattle.mst_c_blocks.proofs.Names.{rules, arith, ◌≡◌, ◌<◌, ◌+◌, ℕ, get_or, length, slice_set, sym, ap, subst, ◌∙◌, below_more, get_or-set_same, get_or-set_other, length-set, arc_value, Shards, Dealt, IsLot, PaddedBlocksHand, Reader, reader_of}
use Rattle.std.proofs.Common.{Some}
use Rattle.mst_c_blocks.proofs.opening.hand_readers.Goals as goal

-- the reader that is handed out next is that of the first lot among the rest
pub hand_next-all-requires-clause-lot : goal.hand_next-all-requires-clause-lot
hand_next-all-requires-clause-lot c =
    let map : Shards = arc_value c.args.map.now in
    let was = c.loop-lot.invariant in let at : ℕ = c.loop-lot.at in
    let first : get_or c.args.lots.items at c.in-Some.lot ≡ c.in-Some.lot =
    (let h = was.1 0 c.in-Some.lot in grind rules) in
    subst (λ (d : Dealt). IsLot map d) first
    (c.requires.own at c.in-Some.lot (let some = was.0 in grind (arith, rules)))

-- its hand is the next one
pub loop-lot-preserved : goal.loop-lot-preserved
loop-lot-preserved c =
    let map : Shards = arc_value c.args.map.now in
    let was = c.loop-lot.invariant in let at : ℕ = c.loop-lot.at in
    let first : (d : Dealt) → get_or c.args.lots.items at d ≡ c.in-Some.lot =
    (λ d. let h = was.1 0 d in grind rules) in
    let put : PaddedBlocksHand = c.hand_next-all.new.hand in
    let within : at + 1 < length c.loop-lot.hands = search rules in (
      search rules,
      (λ k d below. let h = was.1 (k + 1) d in grind rules),
      (λ h. ap (λ (x : PaddedBlocksHand). x.hand.held)
          (get_or-set_other c.loop-lot.hands (at + 1) 0 put h (λ z. omega (arith, z)))
          ∙ was.2 h),
      (λ yes k d h below.
          below_more (λ i. (get_or (slice_set c.loop-lot.hands (at + 1) put) (i + 1) h).hand.held
          ≡ Some (Reader (reader_of map (get_or c.args.lots.items i d)))) at
          (λ i low. ap (λ (x : PaddedBlocksHand). x.hand.held)
          (get_or-set_other c.loop-lot.hands (at + 1) (i + 1) put h (λ z. omega (arith, z, low)))
          ∙ was.3 (c.hand_next-all.ensures.all yes) i d h low)
          (ap (λ (x : PaddedBlocksHand). x.hand.held)
          (get_or-set_same c.loop-lot.hands (at + 1) put h within)
          ∙ c.hand_next-all.ensures.held yes
          ∙ ap (λ (d : Dealt). Some (Reader (reader_of map d))) (sym (first d)))
          k below),
      (λ k h from below.
          let long = length-set c.loop-lot.hands (at + 1) put in
          ap (λ (x : PaddedBlocksHand). x.hand.held)
          (get_or-set_other c.loop-lot.hands (at + 1) k put h (λ z. omega (arith, z, from)))
          ∙ was.4 k h (omega (arith, from)) (omega (arith, below, long))),
    )
