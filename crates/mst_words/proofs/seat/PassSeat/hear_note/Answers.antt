use Rattle.mst_words.proofs.Names.{◌∙◌, sym, rules, arith, ap, TableId, Seated, stored}
use Rattle.mst_words.proofs.Framed.{stored_framed}
use Rattle.mst_words.proofs.Hearing.{note_joins}
use Rattle.mst_words.proofs.seat.PassSeat.hear_note.Goals as goal

pub join_seat-requires : goal.join_seat-requires
join_seat-requires g c = (
  search rules,
  search rules,
  search rules,
  (let v = ap (λ (z : TableId). z.words) c.board.view_is in let e = c.self.invariant.wide in
      omega arith),
  rw (c.requires.named
      ∙ ap (λ (z : Seated). z.me.0) (sym c.note.view_is ∙ c.into_token-token.ensures.same))
      (note_joins (stored _) (stored_framed _) _ _ _ c.self.inside.token.me.0 _
      c.into_token-token.result.me.0),
)

pub returns-clause-same : goal.returns-clause-same
returns-clause-same g c = search rules

pub returns-clause-told : goal.returns-clause-told
returns-clause-told g c = search rules

pub invariant_of-self : goal.invariant_of-self
invariant_of-self g c = search rules
