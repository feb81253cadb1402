use Rattle.mst_snapshots.proofs.Names.{◌≡◌, ◌≤◌, ℕ, List, [], ◌∷◌, ◌++◌, length, length-append, vec_items, ◌∙◌, sym, ap, subst, arith, AllByRecursion, deque_items, after, IsMap, Known, most_rows, AllStep, PinsNow, HaveFewPairs, versions_of}
use Rattle.std.proofs.lemmas.List.{map-append}
use Rattle.mst_key.proofs.Alls.{alls-append}
use Rattle.mst_shards.proofs.HandingOut.{goes_on, all_gone}
use Rattle.mst_shards.proofs.PinningAll.{all_step_more}
use Rattle.mst_shards.proofs.Owned.{next_low, next_own}
use Rattle.mst_snapshots.proofs.pinning.pin_shards.Goals as goal

pub lift-pass-requires : goal.lift-pass-requires
lift-pass-requires g c =
    let was = c.loop-laid.invariant in
    record {
      own = next_own c.args.stores.now (vec_items c.args.passes) was.2.0
          (deque_items c.loop-laid.left) (deque_items c.pop_front.new.self) c.in-Some.laid
          c.loop-laid.place c.index-stores-place.result c.requires.own was.2.1
          c.in-Some.ensures.items was.2.3 c.index-stores-place.is;
    }

pub bounds-stores-place : goal.bounds-stores-place
bounds-stores-place g c =
    let was = c.loop-laid.invariant in
    next_low c.args.stores.now (vec_items c.args.passes) was.2.0
    (deque_items c.loop-laid.left) (deque_items c.pop_front.new.self) c.in-Some.laid
    c.loop-laid.place c.requires.own was.2.1 c.in-Some.ensures.items was.2.3

pub offset_bounds-stores-place : goal.offset_bounds-stores-place
offset_bounds-stores-place g c =
    let was = c.loop-laid.invariant in
    let low = next_low c.args.stores.now (vec_items c.args.passes) was.2.0
    (deque_items c.loop-laid.left) (deque_items c.pop_front.new.self) c.in-Some.laid
    c.loop-laid.place c.requires.own was.2.1 c.in-Some.ensures.items was.2.3 in
    omega (arith, low)

pub loop-laid-preserved : goal.loop-laid-preserved
loop-laid-preserved g c =
    let was = c.loop-laid.invariant in
    let fits = was.0 in
    let back = was.1 in
    let at = was.2.3 in
    let noted = was.6 in
    let popped = c.in-Some.ensures.cases in
    let kept = c.in-Some.ensures.capacity in
    let pushed = c.push_reserved-in-Some.ensures.len in
    let room = c.push_reserved-in-Some.ensures.capacity in
    let note = c.push_reserved.ensures.len in
    let note_room = c.push_reserved.ensures.capacity in
    let p : Known = c.in-Some.laid in
    let q : Known = c.lay.result in
    let front : List Known = was.2.0 ++ p ∷ [] in
    let long = length-append was.2.0 (p ∷ []) in
    let is = c.push_reserved-in-Some.ensures.items in
    let lifted : c.lift-pass.result ≡ p = c.lift-pass.ensures.same in
    let laid : q ≡ c.pin-pin.result = c.lay.ensures.same in
    let version : c.version.result ≡ length q.seen =
    c.version.ensures.version ∙ ap (λ (x : Known). length x.seen) (sym laid) in
    let step : PinsNow p q = subst (λ (x : Known). PinsNow p x) (sym laid)
    (subst (λ (x : Known). PinsNow x c.pin-pin.result) lifted
    (c.pin-pin.ensures.looks, c.pin-pin.ensures.once)) in (
      omega (arith, fits, popped, pushed, room),
      omega (arith, back, popped, pushed, kept),
      (
        front,
        goes_on c.args.passes.items was.2.0 (deque_items c.loop-laid.left)
            (deque_items c.pop_front.new.self) p was.2.1 c.in-Some.ensures.items,
        subst (AllStep PinsNow front) (sym is)
            (all_step_more PinsNow was.2.0 c.loop-laid.pins.items p q was.2.2 step),
        omega (arith, at, long),
      ),
      subst (AllByRecursion (λ (x : Known). IsMap (after x.seen))) (sym is)
          (alls-append (λ (x : Known). IsMap (after x.seen)) c.loop-laid.pins.items (q ∷ [])
          was.3
          (subst (λ (x : Known). IsMap (after x.seen)) (sym laid) c.pin-pin.ensures.map, tt)),
      subst HaveFewPairs (sym is)
          (alls-append (λ (x : Known). length (after x.seen) ≤ most_rows) c.loop-laid.pins.items
          (q ∷ []) was.4 (
            subst (λ (x : Known). length (after x.seen) ≤ most_rows) (sym laid)
                c.pin-pin.ensures.few,
            tt,
          )),
      c.push_reserved.ensures.items
          ∙ ap (λ (l : List ℕ). l ++ c.version.result ∷ []) was.5
          ∙ ap (λ (n : ℕ). versions_of c.loop-laid.pins.items ++ n ∷ []) version
          ∙ sym (map-append (λ (x : Known). length x.seen) c.loop-laid.pins.items (q ∷ []))
          ∙ ap (λ (l : List Known). versions_of l) (sym is),
      omega (arith, noted, popped, note, note_room),
      note_room ∙ was.7,
    )

pub overflow_add-place : goal.overflow_add-place
overflow_add-place g c =
    let was = c.loop-laid.invariant in
    let low = next_low c.args.stores.now (vec_items c.args.passes) was.2.0
    (deque_items c.loop-laid.left) (deque_items c.pop_front.new.self) c.in-Some.laid
    c.loop-laid.place c.requires.own was.2.1 c.in-Some.ensures.items was.2.3 in
    omega (arith, low)

pub returns-clause-pins : goal.returns-clause-pins
returns-clause-pins g c =
    let was = c.loop-laid.invariant in
    subst (λ (l : List Known). AllStep PinsNow l (vec_items c.loop-laid.pins))
    (all_gone (vec_items c.args.passes) was.2.0 (deque_items c.loop-laid.left) was.2.1
    (sym c.loop-laid.left.ok.0 ∙ c.in_default.ensures.cases.0)) was.2.2

pub returns-clause-maps : goal.returns-clause-maps
returns-clause-maps g c = c.loop-laid.invariant.3

pub returns-clause-few : goal.returns-clause-few
returns-clause-few g c = c.loop-laid.invariant.4

pub returns-clause-versions : goal.returns-clause-versions
returns-clause-versions g c = c.loop-laid.invariant.5

pub returns-clause-kept : goal.returns-clause-kept
returns-clause-kept g c = c.loop-laid.invariant.7
