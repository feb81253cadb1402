use Rattle.mst_proof.proofs.Names.{◌-◌, ◌+◌, ◌∙◌, arith}
use Rattle.mst_proof.proofs.Frames.{rest_more}
use Rattle.mst_proof.proofs.texts.behind.Goals as goal

pub loop-preserved : goal.loop-preserved
loop-preserved c =
    rest_more (c.args.count - c.loop.counter) (c.args.count - (c.loop.counter + 1)) c.loop.rest.now
    (c.in_ok-after.field-0-0.now, c.in_ok-after.after.now) (omega arith)
    c.in_ok-after.ensures.reading
    ∙ c.loop.invariant
