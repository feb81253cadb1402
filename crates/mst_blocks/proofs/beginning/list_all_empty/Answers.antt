use Rattle.mst_blocks.proofs.Names.{◌≤◌, ◌+◌, ◌++◌, ap, length, arith, empty_listings}
use Rattle.mst_sharded_proof.specs.Shards.{shards as shards_at}
use Rattle.mst_blocks.proofs.Begun.{empty_step, empty_end}
use Rattle.mst_blocks.proofs.beginning.list_all_empty.Goals as goal

pub loop-place-init : goal.loop-place-init
loop-place-init g c =
    let none = c.in_ok-edits.ensures.empty in
    let len = c.in_ok-edits.edits.ok.0 in
    let zero_is = ap (λ es. length es) none in (
      ap (λ es. es ++ empty_listings c.args.format (shards_at c.args.splits.now)) none,
      omega (arith, len, zero_is),
      c.in_ok-edits.ensures.room,
    )

pub loop-place-preserved : goal.loop-place-preserved
loop-place-preserved g c =
    let was = c.loop-place.invariant in
    let low : c.loop-place.place ≤ length c.args.splits.now = omega arith in
    let count = was.1 in
    let room = was.2 in
    let len = c.list_empty.ensures.len in
    let cap = c.list_empty.ensures.room in (
      empty_step c.args.format c.args.splits.now c.loop-place.edits.items
          c.list_empty.new.edits.items c.root_of_in-digest.result c.loop-place.place low was.0
          c.root_of_in-digest.ensures.root c.list_empty.ensures.listed,
      omega (arith, count, len),
      omega (arith, room, cap),
    )

pub returns : goal.returns
returns g c =
    let end : length c.args.splits.now + 1 ≤ c.loop-place.place = omega arith in
    record {
      listed = empty_end c.args.format c.args.splits.now c.loop-place.edits.items
          c.loop-place.place end c.loop-place.invariant.0;
    }
