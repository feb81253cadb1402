use Rattle.mst_shards.proofs.Names.{◌∙◌, vec_items, arith, sym, deque_items}
use Rattle.mst_shards.proofs.HandingOut.{goes_same, all_gone}
use Rattle.mst_shards.proofs.Owned.{next_low, next_own}
use Rattle.mst_shards.proofs.moving.unpin_laid.Goals as goal

pub lift_pinned-pin-requires : goal.lift_pinned-pin-requires
lift_pinned-pin-requires g c =
    let was = c.loop-laid.invariant in
    record {
      own = next_own c.args.stores.now (vec_items c.args.pinned) (vec_items c.loop-laid.passes)
          (deque_items c.loop-laid.left) (deque_items c.pop_front.new.self) c.in-Some.laid
          c.loop-laid.place c.index-stores-place.result c.requires.own was.2
          c.in-Some.ensures.items (was.3 ∙ c.loop-laid.passes.ok.0) c.index-stores-place.is;
    }

pub bounds-stores-place : goal.bounds-stores-place
bounds-stores-place g c =
    let was = c.loop-laid.invariant in
    next_low c.args.stores.now (vec_items c.args.pinned) (vec_items c.loop-laid.passes)
    (deque_items c.loop-laid.left) (deque_items c.pop_front.new.self) c.in-Some.laid
    c.loop-laid.place c.requires.own was.2 c.in-Some.ensures.items (was.3 ∙ c.loop-laid.passes.ok.0)

pub offset_bounds-stores-place : goal.offset_bounds-stores-place
offset_bounds-stores-place g c =
    let was = c.loop-laid.invariant in
    let low = next_low c.args.stores.now (vec_items c.args.pinned) (vec_items c.loop-laid.passes)
    (deque_items c.loop-laid.left) (deque_items c.pop_front.new.self) c.in-Some.laid
    c.loop-laid.place c.requires.own was.2 c.in-Some.ensures.items (was.3 ∙ c.loop-laid.passes.ok.0)
    in
    omega (arith, low)

pub loop-laid-preserved : goal.loop-laid-preserved
loop-laid-preserved g c =
    let was = c.loop-laid.invariant in
    let fits = was.0 in
    let back = was.1 in
    let at = was.3 in
    let popped = c.in-Some.ensures.cases in
    let kept = c.in-Some.ensures.capacity in
    let pushed = c.push_reserved.ensures.len in
    let room = c.push_reserved.ensures.capacity in (
      omega (arith, fits, popped, pushed, room),
      omega (arith, back, popped, pushed, kept),
      goes_same (vec_items c.args.pinned) (vec_items c.loop-laid.passes)
          (deque_items c.loop-laid.left)
          (deque_items c.pop_front.new.self) (vec_items c.push_reserved.new.self)
          c.in-Some.laid c.lay.result was.2 c.in-Some.ensures.items
          (c.lay.ensures.same ∙ c.unpin.ensures.same ∙ c.lift_pinned-pin.ensures.same)
          c.push_reserved.ensures.items,
      omega (arith, at, pushed),
    )

pub returns-clause-same : goal.returns-clause-same
returns-clause-same g c =
    let was = c.loop-laid.invariant in
    all_gone (vec_items c.args.pinned) (vec_items c.loop-laid.passes) (deque_items c.loop-laid.left)
    was.2
    (sym c.loop-laid.left.ok.0 ∙ c.in_default.ensures.cases.0)
