use Rattle.mst_batch.proofs.Names.{subst, IsThere}
use Rattle.mst_batch.proofs.sowing.write_entry.Goals as goal

pub returns-in-Kept-clause-written : goal.returns-in-Kept-clause-written
returns-in-Kept-clause-written g c = λ format es p r next written root has out.
    c.copy.ensures.written format es p r (c.args.key.now, c.args.value.now) next
    (subst (IsThere (g.R.Rows.content c.args.rows.now) (c.args.key.now, c.args.value.now))
    c.in-Kept.is c.requires.there) written root has out
