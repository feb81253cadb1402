use Rattle.mst_blocks.proofs.Committing.{list_step, list_end}
use Rattle.mst_blocks.proofs.blocks.list_stages.Goals as goal

pub loop-place-preserved : goal.loop-place-preserved
loop-place-preserved g c =
    list_step c.args.splits.now c.args.stages.now c.loop-place.edits.items
    c.list_one.new.edits.items c.loop-place.place c.index-stages-place.result c.requires.count
    c.loop-place-test.true c.index-stages-place.is c.loop-place.invariant
    c.in_ok-list_one.ensures.listed

pub returns : goal.returns
returns g c =
    record {
      listed = list_end c.args.splits.now c.args.stages.now c.loop-place.edits.items
          c.loop-place.place c.requires.count c.loop-place-test.false c.loop-place.invariant;
    }
