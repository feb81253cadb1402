use Rattle.mst_shards.proofs.Names.{◌≡◌, ◌∷◌, ◌++◌, [], List, length, vec_items, rules, arith, refl, sym, ap, ◌∙◌, length-append, into_iter_items, into_iter_len, StoreId, Dealt, first_lots}
use Rattle.mst_shards.proofs.HandingOut.{goes_on, own_next, holds_own, taken}
use Rattle.mst_shards.proofs.Dealing.{lots_grow, length-first_lots}
use Rattle.mst_shards.proofs.deal.all_lots.Goals as goal

pub deal_at-requires-clause-own : goal.deal_at-requires-clause-own
deal_at-requires-clause-own g c =
    let was = c.loop-seats_here.invariant in
    let rest : into_iter_items c.loop-seats_here.seats_here-iterator
    ≡ c.in-Some.seats_here ∷ into_iter_items c.next.new.self =
    c.in-Some.ensures.steps.0 in
    own_next (vec_items c.args.seats) c.args.stores.now was.1.0
    (into_iter_items c.loop-seats_here.seats_here-iterator) (into_iter_items c.next.new.self)
    c.in-Some.seats_here c.loop-seats_here.place c.requires.own was.1.1 rest was.1.2

pub loop-seats_here-init : goal.loop-seats_here-init
loop-seats_here-init g c =
    let gives = c.into_iter-seats_here-iterator.ensures.into_iter_gives in
    let count = gives.1 ∙ c.args.seats.ok.0
    ∙ ap (λ (l : List StoreId). length l) c.requires.own in (
      omega (arith, count),
      ([], sym gives.0, refl, c.in_ok-lots.ensures.lots),
    )

pub loop-seats_here-preserved : goal.loop-seats_here-preserved
loop-seats_here-preserved g c =
    let was = c.loop-seats_here.invariant in
    let front : List StoreId = was.1.0 in
    let x : StoreId = c.in-Some.seats_here in
    let rest : into_iter_items c.loop-seats_here.seats_here-iterator
    ≡ c.in-Some.seats_here ∷ into_iter_items c.next.new.self =
    c.in-Some.ensures.steps.0 in
    let long = length-append front (x ∷ []) in
    let is_long : length front ≡ c.loop-seats_here.place = was.1.2 in
    let count : x.passes ≡ c.args.directory.now.passes =
    holds_own (λ (s : StoreId). s.passes ≡ c.args.directory.now.passes)
    (vec_items c.args.seats) c.args.stores.now
    front (into_iter_items c.loop-seats_here.seats_here-iterator)
    (into_iter_items c.next.new.self) x c.requires.own was.1.1 rest c.requires.passes in
    let step = c.in-Some.ensures.steps.1 in
    let left = was.0 in (
      omega (arith, step, left),
      (
        front ++ x ∷ [],
        goes_on (vec_items c.args.seats) front
            (into_iter_items c.loop-seats_here.seats_here-iterator)
            (into_iter_items c.next.new.self) x was.1.1 rest,
        omega (arith, long, is_long),
        lots_grow front c.args.directory.now x c.args.directory.now.passes
            (vec_items c.loop-seats_here.lots) (vec_items c.hand_out.new.lots)
            (vec_items c.in_ok-passes.passes) was.1.3
            c.in_ok-passes.ensures.ok count c.in_ok-hand_out.ensures.count
            c.in_ok-hand_out.ensures.each,
      ),
    )

pub hand_out-requires : goal.hand_out-requires
hand_out-requires g c =
    let was = c.loop-seats_here.invariant in
    let front : List StoreId = was.1.0 in
    let x : StoreId = c.in-Some.seats_here in
    let rest : into_iter_items c.loop-seats_here.seats_here-iterator
    ≡ c.in-Some.seats_here ∷ into_iter_items c.next.new.self =
    c.in-Some.ensures.steps.0 in
    let count : x.passes ≡ c.args.directory.now.passes =
    holds_own (λ (s : StoreId). s.passes ≡ c.args.directory.now.passes)
    (vec_items c.args.seats) c.args.stores.now
    front (into_iter_items c.loop-seats_here.seats_here-iterator)
    (into_iter_items c.next.new.self) x c.requires.own was.1.1 rest c.requires.passes in
    record {
      count = c.in_ok-passes.ensures.count ∙ count
          ∙ sym (c.loop-seats_here.lots.ok.0 ∙ ap (λ (l : List Dealt). length l) was.1.3
          ∙ length-first_lots front c.args.directory.now c.args.directory.now.passes);
    }

pub returns : goal.returns
returns g c =
    let was = c.loop-seats_here.invariant in
    let none : into_iter_len c.loop-seats_here.seats_here-iterator ≡ 0 = search rules in
    let count = was.0 in
    let front = was.1.2 in
    let own : length (vec_items c.args.seats) ≡ length c.args.stores.now =
    ap (λ (l : List StoreId). length l) c.requires.own in
    record {
      lots = was.1.3
          ∙ ap (λ (l : List StoreId). first_lots l c.args.directory.now c.args.directory.now.passes)
          (taken (vec_items c.args.seats) was.1.0
          (into_iter_items c.loop-seats_here.seats_here-iterator) was.1.1
          (omega (arith, none, count, front, own)) ∙ c.requires.own);
    }
