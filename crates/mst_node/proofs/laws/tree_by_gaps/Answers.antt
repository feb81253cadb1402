use Rattle.mst_node.proofs.Names.{[], refl}
use Rattle.mst_node.proofs.TreeEquation.{tree-no_pairs, tree_some}
use Rattle.mst_node.proofs.laws.tree_by_gaps.Goals as goal

pub returns-clause-none : goal.returns-clause-none
returns-clause-none c f = tree-no_pairs f [] refl

pub returns-clause-some : goal.returns-clause-some
returns-clause-some c f m some = tree_some f m some
