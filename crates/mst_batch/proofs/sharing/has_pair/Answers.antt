use Rattle.mst_batch.proofs.Names.{refl, planned_entry}
use Rattle.mst_batch.proofs.KnownShapes.{same_pair}
use Rattle.mst_batch.proofs.sharing.has_pair.Goals as goal

pub returns-then-stands_in-clause-pair : goal.returns-then-stands_in-clause-pair
returns-then-stands_in-clause-pair g c = λ value own.
    let content = g.R.Rows.content c.args.rows.now in
    let same = same_pair content c.args.row (planned_entry c.args.entry.now).key
    (planned_entry c.args.entry.now).value value c.args.links.now
    (c.stands_in.ensures.stands c.if-stands_in.true content c.requires.known) c.requires.links own
    in (λ yes. same, λ both. refl)
