use Rattle.mst_path.proofs.Names.{arith, free_count, pair_rows}
use Rattle.mst_path.proofs.lemmas.cost.Sizes.{decided}
use Rattle.mst_path.proofs.counting.put_fits.Goals as goal

pub returns-else-others-free-clause-fits : goal.returns-else-others-free-clause-fits
returns-else-others-free-clause-fits g c format s t v layer few =
    decided c.put_cost.result c.free-free.result
    (pair_rows format t c.args.layer c.args.key.now v) (free_count c.args.desk.now.lives)
    (c.put_cost.ensures.cost format s t v layer) c.free-free.ensures.count

pub put_cost-requires : goal.put_cost-requires
put_cost-requires g c =
    let t = c.requires.tree in
    record { tree = (t.0, t.1, t.2, t.3, omega (arith, t.4, c.free-free.ensures.few), t.5) }
