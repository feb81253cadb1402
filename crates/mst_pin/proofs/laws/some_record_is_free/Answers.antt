use Rattle.mst_pin.proofs.Names.{ap, is_some}
use Rattle.mst_pin.proofs.Sound.{sound_reached, free_record}
use Rattle.mst_pin.proofs.laws.some_record_is_free.Goals as goal

pub returns : goal.returns
returns c = λ passes events answers s ran settled. let f =
    free_record s (sound_reached passes s events answers ran) in
    (f.0, λ rows usable. (ap is_some settled, f.1.0, f.1.1, f.1.2, usable))
