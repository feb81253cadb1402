use Rattle.std.proofs.Common.{rules}
use Rattle.mst_tree_tests.proofs.proving.finds_none.Goals as goal

pub collide_in-requires : goal.collide_in-requires
collide_in-requires c =
    record { map = (c.args.pairs.now, c.requires.map, c.requires.few, search rules) }
