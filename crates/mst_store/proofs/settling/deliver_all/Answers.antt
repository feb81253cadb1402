use Rattle.mst_store.proofs.Names.{◌≡◌, ℕ, List, get_or, set, ap, ◌∙◌, sym, subst, History, events_of, IsPrefix, Known, SeatState, having_seen}
use Rattle.mst_store.proofs.Courier.{one_more, changed_at, changed_next}
use Rattle.mst_store.proofs.settling.deliver_all.Goals as goal

pub deliver-requires-clause-later : goal.deliver-requires-clause-later
deliver-requires-clause-later g c = let log : History = c.args.courier.now.me.0.seen in let at : ℕ =
    c.loop-pass.pass-index in let p : Known = c.pass-item.result in let i = c.loop-pass.invariant in
    let here : get_or c.loop-pass.line at p ≡ get_or c.args.line.now at p =
    ap (λ (l : List Known). get_or l at p) i.now ∙ changed_at (having_seen log) c.args.line.now
    at p in
    subst (λ (m : SeatState). IsPrefix (get_or c.loop-pass.line at p).seen m.0.seen) (sym i.courier)
    (subst (λ (q : Known). IsPrefix q.seen log) (sym here)
    (c.requires.later at p c.loop-pass-test.true))

pub loop-pass-preserved : goal.loop-pass-preserved
loop-pass-preserved g c = let log : History = c.args.courier.now.me.0.seen in let at : ℕ =
    c.loop-pass.pass-index in let p : Known = c.pass-item.result in
    let i = c.loop-pass.invariant in let e = c.deliver.ensures in
    let here : get_or c.loop-pass.line at p ≡ get_or c.args.line.now at p =
    ap (λ (l : List Known). get_or l at p) i.now ∙ changed_at (having_seen log) c.args.line.now
    at p in
    let heard : c.loop-pass.courier.me.0.seen ≡ log = ap (λ (m : SeatState). m.0.seen) i.courier in
    let is : c.deliver.new.pass ≡ having_seen log (get_or c.args.line.now at p) =
    e.now ∙ (λ t. having_seen (heard t) (here t)) in record {
      table = e.table ∙ i.table;
      courier = e.same ∙ i.courier;
      now = ap (λ (q : Known). set c.loop-pass.line at q) is
          ∙ ap (λ (l : List Known). set l at (having_seen log (get_or c.args.line.now at p))) i.now
          ∙ changed_next (having_seen log) c.args.line.now at p c.loop-pass-test.true;
      own = one_more (λ (q : Known). events_of q.number log ≡ q.mine) c.args.line.now at p
          c.loop-pass-test.true i.own
          (subst (λ (q : Known). events_of q.number log ≡ q.mine) here
          (subst (λ (h : History). events_of (get_or c.loop-pass.line at p).number h
          ≡ (get_or c.loop-pass.line at p).mine) heard e.own));
    }
