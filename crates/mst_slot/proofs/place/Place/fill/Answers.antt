use Rattle.std.proofs.Common.{rules}
use Rattle.mst_slot.proofs.Steps.{begins, fills, both}
use Rattle.mst_slot.proofs.place.Place.fill.Goals as goal

pub store-requires : goal.store-requires
store-requires g c = (search rules, search rules, begins _ _ _ c.args.self.vacant)

pub store-requires-2 : goal.store-requires-2
store-requires-2 g c = (search rules, search rules, fills _ _ _ c.args.value (search rules))

pub split_seat-second-requires : goal.split_seat-second-requires
split_seat-second-requires g c =
    (search rules, search rules, both _ _ c.args.value (search rules))
