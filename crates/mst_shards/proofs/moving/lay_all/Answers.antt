use Rattle.mst_shards.proofs.Names.{◌∙◌, vec_items, arith, sym, deque_items}
use Rattle.mst_shards.proofs.HandingOut.{goes_same, all_gone}
use Rattle.mst_shards.proofs.moving.lay_all.Goals as goal

pub loop-pass-preserved : goal.loop-pass-preserved
loop-pass-preserved g c =
    let was = c.loop-pass.invariant in
    let fits = was.0 in
    let popped = c.in-Some.ensures.cases in
    let pushed = c.push_reserved.ensures.len in
    let room = c.push_reserved.ensures.capacity in (
      omega (arith, fits, popped, pushed, room),
      room ∙ was.1,
      goes_same (vec_items c.args.passes) (vec_items c.loop-pass.laid)
          (deque_items c.loop-pass.left)
          (deque_items c.pop_front.new.self) (vec_items c.push_reserved.new.self)
          c.in-Some.pass c.lay.result was.2 c.in-Some.ensures.items
          c.lay.ensures.same c.push_reserved.ensures.items,
    )

pub returns-clause-same : goal.returns-clause-same
returns-clause-same g c =
    let was = c.loop-pass.invariant in
    all_gone (vec_items c.args.passes) (vec_items c.loop-pass.laid) (deque_items c.loop-pass.left)
    was.2 (sym c.loop-pass.left.ok.0 ∙ c.in_default.ensures.cases.0)
