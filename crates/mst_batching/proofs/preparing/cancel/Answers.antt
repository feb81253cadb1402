use Rattle.mst_versions.proofs.Undone.{undone_holds, undone_settled}
use Rattle.mst_batching.proofs.preparing.cancel.Goals as goal

pub give_back-requires-clause-holds : goal.give_back-requires-clause-holds
give_back-requires-clause-holds g c =
    undone_holds c.args.prepared.turn c.args.seat.now.me c.requires.prepared.made.holds
    c.undo.new.self
    c.undo.ensures.undone

pub give_back-requires-clause-settled : goal.give_back-requires-clause-settled
give_back-requires-clause-settled g c =
    undone_settled c.args.prepared.turn c.args.seat.now.me c.requires.prepared.made.holds
    c.undo.new.self
    c.undo.ensures.undone
