use Rattle.mst_change.proofs.Names.{same_from_tree}
use Rattle.mst_node.proofs.SameTrees.{tree_from_same}
use Rattle.mst_change.proofs.Cost.Put.{cost_put}
use Rattle.mst_change.proofs.Cost.Remove.{cost_remove}
use Rattle.mst_change.proofs.Cost.Bounds.{put_cost_bound, remove_cost_bound}
use Rattle.mst_node.proofs.FormatsShareNothing.{moved}
use Rattle.mst_change.proofs.Formats.{stays}
use Rattle.mst_change.proofs.laws.cost_laws.Goals as goal

pub returns-clause-different : goal.returns-clause-different
returns-clause-different c t u e = tree_from_same t u e

pub returns-clause-same : goal.returns-clause-same
returns-clause-same c t u e = same_from_tree t u e

pub returns-clause-put : goal.returns-clause-put
returns-clause-put c format m k v map = cost_put format m k v map.ascending

pub returns-clause-remove : goal.returns-clause-remove
returns-clause-remove c format m k map = cost_remove format m k map.ascending

pub returns-clause-put_bound : goal.returns-clause-put_bound
returns-clause-put_bound c format m k v map = put_cost_bound format m k v map.ascending

pub returns-clause-remove_bound : goal.returns-clause-remove_bound
returns-clause-remove_bound c format m k map = remove_cost_bound format m k map.ascending

pub returns-clause-moved : goal.returns-clause-moved
returns-clause-moved c f g m other = moved f g other m

pub returns-clause-stays : goal.returns-clause-stays
returns-clause-stays c t = stays t
