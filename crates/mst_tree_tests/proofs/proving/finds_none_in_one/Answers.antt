use Rattle.std.proofs.Common.{[], sym, refl, arith}
use Rattle.mst_key.specs.declared.format.Format.TheVariants.{One}
use Rattle.mst_key.proofs.MapLaws.{IsMap-nil}
use Rattle.mst_node.proofs.TreeEquation.{tree-no_pairs}
use Rattle.mst_tree_tests.proofs.proving.finds_none_in_one.Goals as goal

pub collide-requires : goal.collide-requires
collide-requires c =
    record { map = ([], IsMap-nil, omega arith, sym (tree-no_pairs One [] refl)) }
