use Rattle.mst_c_blocks.proofs.Names.{rules, ◌≡◌, get_or, subst, arc_value, Shards, HoldsWriter}
use Rattle.mst_c_blocks.proofs.opening.hand_map.Goals as goal

-- the map is the one behind its shares
pub returns-then-deal_all-clause-writer : goal.returns-then-deal_all-clause-writer
returns-then-deal_all-clause-writer c = λ yes h.
    let is : arc_value c.in-Ok.map ≡ c.args.map = search rules in
    subst (λ (m : Shards). HoldsWriter m (get_or c.deal_all.new.hands 0 h).hand.held) is
    (c.deal_all.ensures.writer c.if-deal_all.true h)
