use Rattle.mst_words.proofs.Names.{rules, arith, ap, TableId, stored}
use Rattle.mst_words.proofs.Framed.{stored_framed}
use Rattle.mst_words.proofs.Hearing.{note_splits}
use Rattle.mst_words.proofs.seat.PassSeat.write_note.Goals as goal

pub split_seat-token-requires : goal.split_seat-token-requires
split_seat-token-requires g c = (
  search rules,
  (let v = ap (λ (z : TableId). z.words) c.board.view_is in let e = c.self.invariant.wide in
      omega arith),
  note_splits (stored _) (stored_framed _) _ _ _ c.self.inside.token.me.0,
)

pub returns-clause-kept : goal.returns-clause-kept
returns-clause-kept g c = search rules

pub returns-clause-own : goal.returns-clause-own
returns-clause-own g c = search rules

pub returns-clause-note : goal.returns-clause-note
returns-clause-note g c = search rules

pub invariant_of-self : goal.invariant_of-self
invariant_of-self g c = search rules
