use Rattle.mst_node.proofs.Names.{◌∙◌, sym, ap, pairs}
use Rattle.mst_node.proofs.UniqueTree.{pairs_tree, tree_unique, tree_mst}
use Rattle.mst_node.proofs.laws.one_tree.Goals as goal

pub returns-clause-search_tree : goal.returns-clause-search_tree
returns-clause-search_tree c f m = tree_mst f m

pub returns-clause-pairs : goal.returns-clause-pairs
returns-clause-pairs c f m = pairs_tree f m

pub returns-clause-only : goal.returns-clause-only
returns-clause-only c f t mst = tree_unique t f mst

pub returns-clause-one_map : goal.returns-clause-one_map
returns-clause-one_map c f m n same = sym (pairs_tree f m) ∙ ap pairs same ∙ pairs_tree f n
