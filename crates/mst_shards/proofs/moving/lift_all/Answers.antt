use Rattle.mst_shards.proofs.Names.{◌∙◌, vec_items, arith, sym, deque_items}
use Rattle.mst_shards.proofs.HandingOut.{goes_same, all_gone}
use Rattle.mst_shards.proofs.Owned.{next_low, next_own}
use Rattle.mst_shards.proofs.moving.lift_all.Goals as goal

pub lift-requires : goal.lift-requires
lift-requires g c =
    let was = c.loop-pass.invariant in
    record {
      own = next_own c.args.stores.now (vec_items c.args.laid) (vec_items c.loop-pass.passes)
          (deque_items c.loop-pass.left) (deque_items c.pop_front.new.self) c.in-Some.pass
          c.loop-pass.place c.index-stores-place.result c.requires.own was.2
          c.in-Some.ensures.items (was.3 ∙ c.loop-pass.passes.ok.0) c.index-stores-place.is;
    }

pub bounds-stores-place : goal.bounds-stores-place
bounds-stores-place g c =
    let was = c.loop-pass.invariant in
    next_low c.args.stores.now (vec_items c.args.laid) (vec_items c.loop-pass.passes)
    (deque_items c.loop-pass.left) (deque_items c.pop_front.new.self) c.in-Some.pass
    c.loop-pass.place c.requires.own was.2 c.in-Some.ensures.items (was.3 ∙ c.loop-pass.passes.ok.0)

pub offset_bounds-stores-place : goal.offset_bounds-stores-place
offset_bounds-stores-place g c =
    let was = c.loop-pass.invariant in
    let low = next_low c.args.stores.now (vec_items c.args.laid) (vec_items c.loop-pass.passes)
    (deque_items c.loop-pass.left) (deque_items c.pop_front.new.self) c.in-Some.pass
    c.loop-pass.place c.requires.own was.2 c.in-Some.ensures.items (was.3 ∙ c.loop-pass.passes.ok.0)
    in
    omega (arith, low)

pub loop-pass-preserved : goal.loop-pass-preserved
loop-pass-preserved g c =
    let was = c.loop-pass.invariant in
    let fits = was.0 in
    let back = was.1 in
    let at = was.3 in
    let popped = c.in-Some.ensures.cases in
    let kept = c.in-Some.ensures.capacity in
    let pushed = c.push_reserved.ensures.len in
    let room = c.push_reserved.ensures.capacity in (
      omega (arith, fits, popped, pushed, room),
      omega (arith, back, popped, pushed, kept),
      goes_same (vec_items c.args.laid) (vec_items c.loop-pass.passes)
          (deque_items c.loop-pass.left)
          (deque_items c.pop_front.new.self) (vec_items c.push_reserved.new.self)
          c.in-Some.pass c.lift.result was.2 c.in-Some.ensures.items
          c.lift.ensures.same c.push_reserved.ensures.items,
      omega (arith, at, pushed),
    )

pub returns-clause-same : goal.returns-clause-same
returns-clause-same g c =
    let was = c.loop-pass.invariant in
    all_gone (vec_items c.args.laid) (vec_items c.loop-pass.passes) (deque_items c.loop-pass.left)
    was.2
    (sym c.loop-pass.left.ok.0 ∙ c.in_default.ensures.cases.0)
