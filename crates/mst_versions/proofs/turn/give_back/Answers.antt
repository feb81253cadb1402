use Rattle.mst_versions.proofs.Names.{◌∷◌, [], Some, refl}
use Rattle.mst_versions.proofs.Slots.{giving}
use Rattle.mst_versions.proofs.turn.give_back.Goals as goal

pub lay_back-requires-clause-giving : goal.lay_back-requires-clause-giving
lay_back-requires-clause-giving g c =
    giving c.args.turn c.args.seat.now.me (c.args.seat.now.me.0, (0, Some c.args.turn.desk) ∷ [])
    c.requires.holds c.requires.settled refl
