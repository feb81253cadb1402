use Rattle.mst_change.proofs.Names.{refl}
use Rattle.mst_change.proofs.Join.Trees.{join_pairs, join_mst, join_under}
use Rattle.mst_change.proofs.Join.Steps.{join_empty, join_higher, join_lower, join_level}
use Rattle.mst_change.proofs.laws.join_laws.Goals as goal

pub returns-clause-pairs : goal.returns-clause-pairs
returns-clause-pairs c a b = join_pairs a b

pub returns-clause-search_tree : goal.returns-clause-search_tree
returns-clause-search_tree c format a b is also = join_mst a b format is also

pub returns-clause-layer : goal.returns-clause-layer
returns-clause-layer c a b l under also = join_under a b l under also

pub returns-clause-none_before : goal.returns-clause-none_before
returns-clause-none_before c b = refl

pub returns-clause-none_behind : goal.returns-clause-none_behind
returns-clause-none_behind c a = join_empty a

pub returns-clause-higher : goal.returns-clause-higher
returns-clause-higher c g h l j es fs less = join_higher g h l j es fs less

pub returns-clause-lower : goal.returns-clause-lower
returns-clause-lower c g h l j es fs less = join_lower g h l j es fs less

pub returns-clause-level : goal.returns-clause-level
returns-clause-level c g h l es fs = join_level g h l es fs
