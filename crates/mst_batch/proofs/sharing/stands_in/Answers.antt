use Rattle.mst_batch.proofs.Names.{◌∙◌, ap, eqb-true, Kept}
use Rattle.mst_batch.proofs.KnownShapes.{own_there}
use Rattle.mst_batch.proofs.sharing.stands_in.Goals as goal

pub returns-in-Kept : goal.returns-in-Kept
returns-in-Kept g c = record {
  stands = λ yes content there.
      own_there content g.row.B.Denot c.args.entry.now c.args.row
      (c.in-Kept.is ∙ ap Kept (eqb-true c.in-Kept.own c.args.row yes)) there;
}
