use Rattle.mst_tree_tests.proofs.rows.standing.StandingMap.planted.Goals as goal

pub invariant_of-result : goal.invariant_of-result
invariant_of-result g c =
    let m = c.requires.tree.0 in
    let stands = c.in-Ok-plant.ensures.stands m c.requires.tree.1 c.requires.tree.2 in
    ((m, stands), (c.args.format, m, stands))
