use Rattle.mst_node.proofs.Names.{sym, subst, None, IsAscending, node, tree, pairs}
use Rattle.mst_node.proofs.UniqueTree.{pairs_tree, tree_mst}
use Rattle.mst_node.proofs.TreeOrder.{layers_fall, lies_between, between_none}
use Rattle.mst_node.proofs.LayersBelow.{under_in}
use Rattle.mst_node.proofs.laws.order_of_tree.Goals as goal

pub returns-clause-layers : goal.returns-clause-layers
returns-clause-layers c f m = layers_fall (tree f m) f (tree_mst f m)

pub returns-clause-gaps : goal.returns-clause-gaps
returns-clause-gaps c f m rise =
    lies_between (tree f m) None None (subst IsAscending (sym (pairs_tree f m)) rise)
    (between_none (pairs (tree f m)))

pub returns-clause-below : goal.returns-clause-below
returns-clause-below c format other l k es below fall has =
    under_in es l (node other k below) fall has
