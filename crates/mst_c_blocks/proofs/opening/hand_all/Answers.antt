use Rattle.mst_c_blocks.proofs.Names.{arith, ◌<◌, length, sym, ap, subst, ◌∙◌, get_or-set_same, get_or-set_other, length-set, Option, arc_value, Shards, PaddedBlocksHand, Role, HoldsWriter}
use Rattle.mst_c_blocks.proofs.opening.hand_all.Goals as goal

-- the hands behind the first one are empty as before
pub hand_readers-requires-clause-empty : goal.hand_readers-requires-clause-empty
hand_readers-requires-clause-empty c = λ k h some below.
    let long = length-set c.args.hands.now 0 c.hand_writer.new.hand in
    ap (λ (x : PaddedBlocksHand). x.hand.held)
    (get_or-set_other c.args.hands.now 0 k c.hand_writer.new.hand h (λ z. omega (arith, z, some)))
    ∙ c.requires.empty k h (omega (arith, below, long))

-- and the first one keeps the writer
pub returns-then-hand_writer-clause-writer : goal.returns-then-hand_writer-clause-writer
returns-then-hand_writer-clause-writer c = λ yes h.
    let map : Shards = arc_value c.args.map.now in
    let put : PaddedBlocksHand = c.hand_writer.new.hand in
    let within : 0 < length c.args.hands.now = omega (arith, c.requires.count) in
    subst (λ (held : Option Role). HoldsWriter map held)
    (sym (c.hand_readers.ensures.first h
    ∙ ap (λ (x : PaddedBlocksHand). x.hand.held) (get_or-set_same c.args.hands.now 0 put h within)))
    (c.hand_writer.ensures.held c.if-hand_writer.true)
