use Rattle.mst_store.proofs.Names.{◌≡◌, ℕ, List, get_or, set, ap, ◌∙◌, subst, IsPrefix, IsPrefix-chain, Known, having_asked, SeatState}
use Rattle.mst_store.proofs.Courier.{one_more, goes_on, changed_at, changed_next}
use Rattle.mst_store.proofs.settling.collect_held.Goals as goal

pub loop-pinned-preserved : goal.loop-pinned-preserved
loop-pinned-preserved g c = let m : SeatState = c.loop-pinned.courier.me in let n : SeatState =
    c.collect_pinned.new.courier.me in
    let at : ℕ = c.loop-pinned.pinned-index in let p : Known = c.pinned-item.result in let i =
    c.loop-pinned.invariant in let e = c.collect_pinned.ensures in
    let here : get_or c.loop-pinned.line at p ≡ get_or c.args.line.now at p =
    ap (λ (l : List Known). get_or l at p) i.asked ∙ changed_at (having_asked 1) c.args.line.now
    at p in
    let is : c.collect_pinned.new.pinned ≡ having_asked 1 (get_or c.args.line.now at p) =
    e.asked ∙ ap (having_asked 1) here in record {
      asked = ap (λ (q : Known). set c.loop-pinned.line at q) is
          ∙ ap (λ (l : List Known). set l at (having_asked 1 (get_or c.args.line.now at p))) i.asked
          ∙ changed_next (having_asked 1) c.args.line.now at p c.loop-pinned-test.true;
      table = e.table ∙ i.table;
      courier = goes_on c.args.courier.now.me m n i.courier e.courier;
      later = one_more (λ (q : Known). IsPrefix q.seen n.0.seen) c.args.line.now at p
          c.loop-pinned-test.true
          (λ k d l. IsPrefix-chain (get_or c.args.line.now k d).seen m.0.seen n.0.seen
          (i.later k d l) e.courier.later)
          (subst (λ (q : Known). IsPrefix q.seen n.0.seen) here e.later);
    }
