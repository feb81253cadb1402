use Rattle.mst_change.proofs.Split.Trees.{below_pairs, above_pairs, below_mst, above_mst, below_under, above_under}
use Rattle.mst_change.proofs.Cost.Split.{below_whole, above_whole}
use Rattle.mst_change.proofs.laws.split_laws.Goals as goal

pub returns-clause-below : goal.returns-clause-below
returns-clause-below c t k rise = below_pairs t k rise

pub returns-clause-above : goal.returns-clause-above
returns-clause-above c t k rise = above_pairs t k rise

pub returns-clause-search_trees : goal.returns-clause-search_trees
returns-clause-search_trees c format t k mst = (below_mst t format k mst, above_mst t format k mst)

pub returns-clause-layers : goal.returns-clause-layers
returns-clause-layers c format t k l mst under =
    (below_under t format k l mst under, above_under t format k l mst under)

pub returns-clause-all_below : goal.returns-clause-all_below
returns-clause-all_below c format t k mst rise none e = below_whole t format k rise mst none e

pub returns-clause-all_above : goal.returns-clause-all_above
returns-clause-all_above c format t k mst rise none e = above_whole t format k rise mst none e
