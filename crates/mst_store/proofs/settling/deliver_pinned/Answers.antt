use Rattle.mst_store.proofs.Names.{◌≡◌, ℕ, ◌+◌, ap, ◌∙◌, sym, subst, History, events_of, IsPrefix, events_of-between, Known, SeatState}
use Rattle.mst_store.proofs.Courier.{pinned_still}
use Rattle.mst_store.proofs.settling.deliver_pinned.Goals as goal

pub invariant_of-pinned : goal.invariant_of-pinned
invariant_of-pinned g c = let i = c.pinned.inside in let m : SeatState = i.seat.me in let sees =
    c.see_all.ensures.seen in
    pinned_still i.parameters i.at i.seat c.see_all.new.self sees.log
    c.write_note-note.result.me.0.seen (m.0.asked + 1 + 1)
    (sees.is ∙ ap (λ (z : SeatState). (record z.0 { seen = sees.log; asked = z.0.asked + 1 }, z.1))
    c.hear_note.ensures.told) c.pinned.invariant

pub returns-clause-own : goal.returns-clause-own
returns-clause-own g c = let m : SeatState = c.pinned.inside.seat.me in let i =
    c.pinned.invariant in
    let sees = c.see_all.ensures.seen in
    let log : History = c.args.courier.now.me.0.seen in
    let later : IsPrefix m.0.pinned_history log = subst (λ (k : Known). IsPrefix k.seen log)
    (sym c.pinned.view_is) c.requires.later in
    let told : c.hear_note.new.self.me.0.told ≡ log =
    ap (λ (z : SeatState). z.0.told) c.hear_note.ensures.told ∙ ap (λ (z : SeatState). z.0.seen)
    c.write_note-note.ensures.note in
    let whole : IsPrefix log sees.log = subst (λ (h : History). IsPrefix h sees.log) told
    sees.finds.told in
    let high : events_of m.0.number sees.log ≡ m.0.mine =
    subst (λ (z : SeatState). events_of z.0.number sees.log ≡ z.0.mine) c.hear_note.ensures.told
    sees.finds.own in
    let own : events_of m.0.number m.0.pinned_history ≡ m.0.mine =
    subst (λ (n : ℕ). events_of n m.0.pinned_history ≡ m.0.mine) (sym i.pin.2) i.own in
    let between : events_of m.0.number log ≡ m.0.mine =
    events_of-between m.0.number m.0.mine m.0.pinned_history log sees.log later whole own high
    in
    subst (λ (k : Known). events_of k.number log ≡ k.mine) c.pinned.view_is
    (subst (λ (n : ℕ). events_of n log ≡ m.0.mine) i.pin.2 between)
