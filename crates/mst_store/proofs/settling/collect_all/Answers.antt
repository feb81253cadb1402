use Rattle.mst_store.proofs.Names.{ℕ, List, get_or, set, ap, ◌∙◌, subst, set-get_or, IsPrefix, IsPrefix-chain, Known, SeatState}
use Rattle.mst_store.proofs.Courier.{one_more, goes_on}
use Rattle.mst_store.proofs.settling.collect_all.Goals as goal

pub loop-pass-preserved : goal.loop-pass-preserved
loop-pass-preserved g c = let m : SeatState = c.loop-pass.courier.me in let n : SeatState =
    c.collect.new.courier.me in
    let at : ℕ = c.loop-pass.pass-index in let p : Known = c.pass-item.result in let i =
    c.loop-pass.invariant in let e = c.collect.ensures in record {
      same = ap (λ (q : Known). set c.loop-pass.line at q) e.same ∙ set-get_or c.loop-pass.line at p
          ∙ i.same;
      table = e.table ∙ i.table;
      courier = goes_on c.args.courier.now.me m n i.courier e.courier;
      later = one_more (λ (q : Known). IsPrefix q.seen n.0.seen) c.args.line.now at p
          c.loop-pass-test.true
          (λ k d l. IsPrefix-chain (get_or c.args.line.now k d).seen m.0.seen n.0.seen
          (i.later k d l) e.courier.later)
          (subst (λ (l : List Known). IsPrefix (get_or l at p).seen n.0.seen) i.same e.later);
    }
