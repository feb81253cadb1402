use Rattle.mst_store.proofs.Names.{◌≡◌, ℕ, List, get_or, set, ap, ◌∙◌, sym, subst, History, events_of, IsPrefix, Known, having_asked, SeatState}
use Rattle.mst_store.proofs.Courier.{one_more, changed_at, changed_next}
use Rattle.mst_store.proofs.settling.deliver_held.Goals as goal

pub deliver_pinned-requires-clause-later : goal.deliver_pinned-requires-clause-later
deliver_pinned-requires-clause-later g c = let log : History = c.args.courier.now.me.0.seen in
    let at : ℕ = c.loop-pinned.pinned-index in let p : Known = c.pinned-item.result in let i =
    c.loop-pinned.invariant in
    let here : get_or c.loop-pinned.line at p ≡ get_or c.args.line.now at p =
    ap (λ (l : List Known). get_or l at p) i.asked ∙ changed_at (having_asked 2) c.args.line.now
    at p in
    subst (λ (m : SeatState). IsPrefix (get_or c.loop-pinned.line at p).seen m.0.seen)
    (sym i.courier)
    (subst (λ (q : Known). IsPrefix q.seen log) (sym here)
    (c.requires.later at p c.loop-pinned-test.true))

pub loop-pinned-preserved : goal.loop-pinned-preserved
loop-pinned-preserved g c = let log : History = c.args.courier.now.me.0.seen in let at : ℕ =
    c.loop-pinned.pinned-index in let p : Known = c.pinned-item.result in
    let i = c.loop-pinned.invariant in let e = c.deliver_pinned.ensures in
    let here : get_or c.loop-pinned.line at p ≡ get_or c.args.line.now at p =
    ap (λ (l : List Known). get_or l at p) i.asked ∙ changed_at (having_asked 2) c.args.line.now
    at p in
    let heard : c.loop-pinned.courier.me.0.seen ≡ log = ap (λ (m : SeatState). m.0.seen) i.courier
    in
    let is : c.deliver_pinned.new.pinned ≡ having_asked 2 (get_or c.args.line.now at p) =
    e.asked ∙ ap (having_asked 2) here in record {
      table = e.table ∙ i.table;
      courier = e.same ∙ i.courier;
      asked = ap (λ (q : Known). set c.loop-pinned.line at q) is
          ∙ ap (λ (l : List Known). set l at (having_asked 2 (get_or c.args.line.now at p))) i.asked
          ∙ changed_next (having_asked 2) c.args.line.now at p c.loop-pinned-test.true;
      own = one_more (λ (q : Known). events_of q.number log ≡ q.mine) c.args.line.now at p
          c.loop-pinned-test.true i.own
          (subst (λ (q : Known). events_of q.number log ≡ q.mine) here
          (subst (λ (h : History). events_of (get_or c.loop-pinned.line at p).number h
          ≡ (get_or c.loop-pinned.line at p).mine) heard e.own));
    }
