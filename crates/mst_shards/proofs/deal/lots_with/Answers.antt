use Rattle.mst_shards.proofs.Names.{◌≡◌, ◌∷◌, ◌++◌, [], List, map, vec_items, rules, sym, ap, ◌∙◌, map-append, into_iter_items, Known, Dealt}
use Rattle.mst_shards.proofs.Dealing.{lot_with}
use Rattle.mst_shards.proofs.HandingOut.{goes_on, all_gone}
use Rattle.mst_shards.proofs.deal.lots_with.Goals as goal

pub loop-pass-init : goal.loop-pass-init
loop-pass-init g c =
    let gives = c.into_iter-pass-iterator.ensures.into_iter_gives in
    ([], sym gives.0, c.new-lots.ensures.items)

pub loop-pass-preserved : goal.loop-pass-preserved
loop-pass-preserved g c =
    let was = c.loop-pass.invariant in
    let front : List Known = was.0 in
    let p : Known = c.in-Some.pass in
    let rest : into_iter_items c.loop-pass.pass-iterator
    ≡ c.in-Some.pass ∷ into_iter_items c.next.new.self =
    c.in-Some.ensures.steps.0 in
    let pushed : vec_items c.push.new.self
    ≡ vec_items c.loop-pass.lots ++ lot_with c.lay.result ∷ [] =
    c.in_ok-push.ensures.items
    ∙ ap (λ (l : List Known). vec_items c.loop-pass.lots
    ++ (record { passes = l; directory = c.lay.result }) ∷ []) c.new.ensures.items in (
      front ++ p ∷ [],
      goes_on (vec_items c.args.passes) front (into_iter_items c.loop-pass.pass-iterator)
          (into_iter_items c.next.new.self) p was.1 rest,
      pushed
          ∙ ap (λ (x : Known). vec_items c.loop-pass.lots ++ lot_with x ∷ []) c.lay.ensures.same
          ∙ ap (λ (l : List Dealt). l ++ lot_with p ∷ []) was.2
          ∙ sym (map-append lot_with front (p ∷ [])),
    )

pub returns : goal.returns
returns g c =
    let was = c.loop-pass.invariant in
    record {
      lots = was.2 ∙ ap (λ (l : List Known). map lot_with l)
          (all_gone (vec_items c.args.passes) was.0 (into_iter_items c.loop-pass.pass-iterator)
          was.1 (search rules));
    }
