use Rattle.mst_words.proofs.Names.{rules}
use Rattle.mst_words.proofs.board.one_slot.Goals as goal

pub returns-in_err-slots : goal.returns-in_err-slots
returns-in_err-slots g c = search rules

pub returns : goal.returns
returns g c = search rules

pub same-desk : goal.same-desk
same-desk g c = search rules

pub push_reserved-requires : goal.push_reserved-requires
push_reserved-requires g c = search rules
