use Rattle.mst_node.proofs.Names.{◌-◌, ◌+◌, ◌∙◌, arith, seen}
use Rattle.mst_node.proofs.BytesAfterEntries.{behind_more}
use Rattle.mst_node.proofs.reading.behind.Goals as goal

pub loop-preserved : goal.loop-preserved
loop-preserved c =
    behind_more c.args.format (c.args.count - c.loop.counter) (c.args.count - (c.loop.counter + 1))
    c.loop.rest.now (seen c.in_ok-after.field-0-0, c.in_ok-after.after.now) (omega arith)
    c.in_ok-after.ensures.reading
    ∙ c.loop.invariant
