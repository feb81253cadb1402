use Rattle.mst_store.proofs.Names.{◌≡◌, ℕ, ◌+◌, sym, ap, ◌∙◌, subst, History, events_of, IsPrefix, View, Known, SeatState}
use Rattle.mst_store.proofs.Courier.{told_own}
use Rattle.mst_store.proofs.settling.deliver.Goals as goal

-- what the pass then has is what it had, but for what it has seen and was told
pub invariant_of-pass : goal.invariant_of-pass
invariant_of-pass g c = let m : SeatState = c.pass.inside.seat.me in let i = c.pass.invariant in
    let log : History = c.args.courier.now.me.0.seen in
    let note : View = c.write_note-note.result.me.0 in
    let same : note.seen ≡ log = ap (λ (z : SeatState). z.0.seen) c.write_note-note.ensures.note in
    let later : IsPrefix m.0.seen note.seen =
    rw same (subst (λ (k : Known). IsPrefix k.seen log) (sym c.pass.view_is) c.requires.later)
    in
    let own : events_of m.0.number m.0.seen ≡ m.0.mine =
    subst (λ (n : ℕ). events_of n m.0.seen ≡ m.0.mine) (sym i.rest.free.3) i.own in
    let told : events_of m.0.number note.seen ≡ m.0.mine =
    told_own m note c.hear_note.ensures.told c.see_told.ensures.seen later own in
    let is = c.see_told.ensures.seen.is
    ∙ ap (λ (z : SeatState). (record z.0 { seen = z.0.told; asked = z.0.asked + 1 }, z.1))
    c.hear_note.ensures.told in record {
      rest = record {
        free = (
          ap (λ (z : SeatState). z.1) is ∙ i.rest.free.0,
          ap (λ (z : SeatState). z.0.turn) is ∙ i.rest.free.1,
          ap (λ (z : SeatState). z.0.pin) is ∙ i.rest.free.2,
          ap (λ (z : SeatState). z.0.number) is ∙ i.rest.free.3,
          i.rest.free.4,
        );
        passes_is = ap (λ (z : SeatState). z.0.passes) is ∙ i.rest.passes_is;
        few = i.rest.few;
        rows_is = ap (λ (z : SeatState). z.0.rows) is ∙ i.rest.rows_is;
        few_rows = i.rest.few_rows;
      };
      low = i.low;
      own = ap (λ (z : SeatState). events_of c.pass.inside.parameters.number z.0.seen) is
          ∙ subst (λ (n : ℕ). events_of n note.seen ≡ m.0.mine) i.rest.free.3 told
          ∙ sym (ap (λ (z : SeatState). z.0.mine) is);
    }

pub returns-clause-own : goal.returns-clause-own
returns-clause-own g c = let m : SeatState = c.pass.inside.seat.me in let i = c.pass.invariant in
    let log : History = c.args.courier.now.me.0.seen in
    let note : View = c.write_note-note.result.me.0 in
    let same : note.seen ≡ log = ap (λ (z : SeatState). z.0.seen) c.write_note-note.ensures.note in
    let later : IsPrefix m.0.seen note.seen =
    rw same (subst (λ (k : Known). IsPrefix k.seen log) (sym c.pass.view_is) c.requires.later)
    in
    let own : events_of m.0.number m.0.seen ≡ m.0.mine =
    subst (λ (n : ℕ). events_of n m.0.seen ≡ m.0.mine) (sym i.rest.free.3) i.own in
    let told : events_of m.0.number note.seen ≡ m.0.mine =
    told_own m note c.hear_note.ensures.told c.see_told.ensures.seen later own in
    rw (sym c.pass.view_is)
    (subst (λ (n : ℕ). events_of n log ≡ m.0.mine) i.rest.free.3
    (subst (λ (h : History). events_of m.0.number h ≡ m.0.mine) same told))
