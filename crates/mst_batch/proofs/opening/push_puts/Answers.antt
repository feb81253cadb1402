use Rattle.mst_batch.proofs.Names.{arith}
use Rattle.mst_batch.proofs.Puts.{putting_step, putting_end}
use Rattle.mst_batch.proofs.opening.push_puts.Goals as goal

pub loop-edit-preserved : goal.loop-edit-preserved
loop-edit-preserved g c =
    putting_step c.args.format c.args.edits.now c.args.items.now.items c.loop-edit.edit-index
    c.loop-edit.items.items c.push_put.new.items.items c.edit-item.result c.key.result.now
    c.layer_in-layer.result c.loop-edit.invariant c.loop-edit-test.true c.edit-item.is
    c.key.ensures.key
    c.layer_in-layer.ensures.layer c.in_ok-push_put.ensures.adds

pub returns : goal.returns
returns g c = record {
  adds = putting_end c.args.format c.args.edits.now c.args.items.now.items
      c.loop-edit.edit-index c.loop-edit.items.items c.loop-edit.invariant
      (omega (arith, c.loop-edit-test.false));
}
