use Rattle.mst_path.proofs.Names.{arith, free_count, without_rows}
use Rattle.mst_path.proofs.lemmas.cost.Sizes.{decided}
use Rattle.mst_path.proofs.remove_path.remove_fits.Goals as goal

pub returns-else-others-free-clause-fits : goal.returns-else-others-free-clause-fits
returns-else-others-free-clause-fits g c format s t few =
    decided c.remove_cost.result c.free-free.result (without_rows format t c.args.key.now)
    (free_count c.args.desk.now.lives) (c.remove_cost.ensures.cost format s t)
    c.free-free.ensures.count

pub remove_cost-requires : goal.remove_cost-requires
remove_cost-requires g c =
    let t = c.requires.tree in
    record { tree = (t.0, t.1, t.2, omega (arith, t.3, c.free-free.ensures.few)) }
