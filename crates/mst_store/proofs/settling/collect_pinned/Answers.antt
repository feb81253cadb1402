use Rattle.mst_store.proofs.Names.{◌≡◌, ◌+◌, ap, ◌∙◌, sym, subst, History, IsPrefix, IsPrefix-chain, Known, SeatState}
use Rattle.mst_store.proofs.Courier.{pinned_still}
use Rattle.mst_store.proofs.settling.collect_pinned.Goals as goal

pub invariant_of-pinned : goal.invariant_of-pinned
invariant_of-pinned g c = let i = c.pinned.inside in let m : SeatState = i.seat.me in let sees =
    c.see_all.ensures.seen in
    pinned_still i.parameters i.at i.seat c.write_note-note.new.self sees.log m.0.told
    (m.0.asked + 1) (ap (λ s. s.me) c.write_note-note.ensures.kept ∙ sees.is) c.pinned.invariant

pub returns-clause-later : goal.returns-clause-later
returns-clause-later g c = let m : SeatState = c.pinned.inside.seat.me in let one =
    c.see_all.ensures.seen in let two = c.see_all-2.ensures.seen in
    let note : c.write_note-note.result.me.0.seen ≡ one.log =
    ap (λ (z : SeatState). z.0.seen) c.write_note-note.ensures.note
    ∙ ap (λ (z : SeatState). z.0.seen)
    one.is in
    let told : c.hear_note.new.self.me.0.told ≡ one.log =
    ap (λ (z : SeatState). z.0.told) c.hear_note.ensures.told ∙ note in
    let there : c.see_all-2.new.self.me.0.seen ≡ two.log = ap (λ (z : SeatState). z.0.seen) two.is
    in
    let next : IsPrefix one.log two.log = subst (λ (h : History). IsPrefix h two.log) told
    two.finds.told in
    let first : IsPrefix m.0.pinned_history one.log =
    one.finds.pinned c.pinned.inside.at.pinned c.pinned.invariant.pin.0 in
    subst (λ (k : Known). IsPrefix k.seen c.see_all-2.new.self.me.0.seen) c.pinned.view_is
    (subst (λ (h : History). IsPrefix m.0.pinned_history h) (sym there)
    (IsPrefix-chain m.0.pinned_history one.log two.log first next))
