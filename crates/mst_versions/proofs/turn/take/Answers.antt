use Rattle.mst_versions.proofs.Names.{state_of}
use Rattle.mst_versions.proofs.Slots.{slot_there}
use Rattle.mst_versions.proofs.turn.take.Goals as goal

pub take_desk-requires : goal.take_desk-requires
take_desk-requires g c = let t = c.take_turn.ensures.taken c.if-take_turn.true in
    record { holds = (state_of t.desk, slot_there c.args.seat.now.me c.take_turn.new.self.me t) }
