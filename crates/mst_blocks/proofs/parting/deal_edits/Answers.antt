use Rattle.mst_blocks.proofs.Names.{◌≡◌, ◌∙◌, ℕ, List, suc, length, arith, Edit}
use Rattle.mst_blocks.proofs.PartsDealt.{parts_more, parts_end}
use Rattle.mst_blocks.proofs.parting.deal_edits.Goals as goal

pub loop-shard-preserved : goal.loop-shard-preserved
loop-shard-preserved g c =
    let was = c.loop-shard.invariant in
    let splits : List (List ℕ) = c.args.splits.now in
    let edits : List Edit = c.args.edits.now in
    let count = was.1 in
    let room = was.2 in
    let len = c.push_reserved.ensures.len in
    let cap = c.push_reserved.ensures.capacity in (
      parts_more splits edits c.as_slice.result.now c.loop-shard.shard c.loop-shard.parts.items
          c.push_reserved.new.self.items c.in_ok-part.part.items
          (c.as_slice.ensures.value ∙ c.in_ok-places.ensures.places) was.0
          c.in_ok-part.ensures.picked c.push_reserved.ensures.items,
      omega (arith, count, len),
      omega (arith, room, cap),
    )

pub returns-clause-parts : goal.returns-clause-parts
returns-clause-parts g c =
    let was = c.loop-shard.invariant in
    let end : c.loop-shard.shard ≡ suc (length c.args.splits.now) = omega arith in
    parts_end c.args.splits.now c.args.edits.now c.loop-shard.shard c.loop-shard.parts.items end
    was.0
