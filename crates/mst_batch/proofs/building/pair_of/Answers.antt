use Rattle.mst_batch.proofs.PairsFound.{kept_there}
use Rattle.mst_batch.proofs.building.pair_of.Goals as goal

pub pair-key-requires : goal.pair-key-requires
pair-key-requires g c =
    let z = c.requires.item in
    record {
      there = kept_there z.0 z.1 (g.R.Rows.content c.args.rows.now) z.2.rows c.in-Kept.row
          c.in-Kept.own c.args.item.now c.in-Kept.is z.3;
    }
