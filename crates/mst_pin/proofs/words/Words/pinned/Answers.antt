use Rattle.mst_pin.proofs.Names.{rules}
use Rattle.mst_pin.proofs.words.Words.pinned.Goals as goal

pub offset_bounds-self-number : goal.offset_bounds-self-number
offset_bounds-self-number c = search rules

pub bounds-self-number : goal.bounds-self-number
bounds-self-number c = search rules

pub returns : goal.returns
returns c = search rules
