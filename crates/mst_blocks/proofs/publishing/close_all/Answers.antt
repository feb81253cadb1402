use Rattle.mst_blocks.proofs.Names.{map, vec_items, sym, ◌∙◌, arith, deque_items, canceled_stage}
use Rattle.mst_blocks.proofs.Committing.{goes_mapped, mapped_gone}
use Rattle.mst_blocks.proofs.Revealing.{next_shown}
use Rattle.mst_blocks.proofs.publishing.close_all.Goals as goal

pub close_one-requires : goal.close_one-requires
close_one-requires g c = record {
  shown = (next_shown (deque_items c.loop-stage.left) (deque_items c.pop_front.new.self)
      c.in-Some.stage c.in-Some.ensures.items c.loop-stage.invariant.2).0;
}

pub loop-stage-preserved : goal.loop-stage-preserved
loop-stage-preserved g c =
    let was = c.loop-stage.invariant in
    let fits = was.0 in
    let popped = c.in-Some.ensures.cases in
    let pushed = c.push_reserved.ensures.len in
    let room = c.push_reserved.ensures.capacity in (
      omega (arith, fits, popped, pushed, room),
      goes_mapped canceled_stage (map canceled_stage (vec_items c.args.stages))
          (vec_items c.loop-stage.passes)
          (deque_items c.loop-stage.left) (deque_items c.pop_front.new.self) c.in-Some.stage
          c.close_one.result (vec_items c.push_reserved.new.self) was.1 c.in-Some.ensures.items
          c.close_one.ensures.same c.push_reserved.ensures.items,
      (next_shown (deque_items c.loop-stage.left) (deque_items c.pop_front.new.self)
          c.in-Some.stage c.in-Some.ensures.items was.2).1,
    )

pub returns : goal.returns
returns g c =
    let was = c.loop-stage.invariant in
    record {
      same = mapped_gone canceled_stage (map canceled_stage (vec_items c.args.stages))
          (vec_items c.loop-stage.passes) (deque_items c.loop-stage.left) was.1
          (sym c.loop-stage.left.ok.0 ∙ c.in_default.ensures.cases.0);
    }
