use Rattle.mst_batching.proofs.Prepared.{prepared_wrote_at}
use Rattle.mst_batching.proofs.applying.apply.Goals as goal

pub returns-in-Ok-clause-wrote : goal.returns-in-Ok-clause-wrote
returns-in-Ok-clause-wrote g c =
    prepared_wrote_at c.args.seat.now c.prepare.new.seat c.publish.new.seat
    c.args.parameters.number c.publish.result c.args.edits.now c.in-Ok.ensures.told
    c.publish.ensures.published
