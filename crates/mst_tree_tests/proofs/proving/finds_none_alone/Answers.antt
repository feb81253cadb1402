use Rattle.std.proofs.Common.{[], sym, refl, arith}
use Rattle.mst_key.proofs.MapLaws.{IsMap-nil}
use Rattle.mst_node.proofs.TreeEquation.{tree-no_pairs}
use Rattle.mst_tree_tests.proofs.proving.finds_none_alone.Goals as goal

pub collide_in-requires : goal.collide_in-requires
collide_in-requires c =
    record { map = ([], IsMap-nil, omega arith, sym (tree-no_pairs c.args.format [] refl)) }
