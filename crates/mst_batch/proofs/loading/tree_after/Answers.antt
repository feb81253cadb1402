use Rattle.mst_batch.proofs.Names.{rules}
use Rattle.mst_batch.proofs.loading.tree_after.Goals as goal

pub slice_bounds-edited_pairs-end : goal.slice_bounds-edited_pairs-end
slice_bounds-edited_pairs-end g c = search rules

pub returns-then-len-most-clause-lacks : goal.returns-then-len-most-clause-lacks
returns-then-len-most-clause-lacks g c = search rules

pub returns-in-Ok-build_in-clause-tree : goal.returns-in-Ok-build_in-clause-tree
returns-in-Ok-build_in-clause-tree g c = search rules
