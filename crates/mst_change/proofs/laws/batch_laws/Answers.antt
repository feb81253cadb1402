use Rattle.mst_change.proofs.Names.{batched, tree}
use Rattle.mst_change.proofs.Batch.{batched_tree, beside_cost, stands_by_key}
use Rattle.mst_change.proofs.Cost.Put.{cost_put}
use Rattle.mst_change.proofs.Cost.Remove.{cost_remove}
use Rattle.mst_change.proofs.laws.batch_laws.Goals as goal

pub returns-clause-tree : goal.returns-clause-tree
returns-clause-tree c format m es map = batched_tree format m es map.ascending

pub returns-clause-one_put : goal.returns-clause-one_put
returns-clause-one_put c format m k v map = cost_put format m k v map.ascending

pub returns-clause-one_remove : goal.returns-clause-one_remove
returns-clause-one_remove c format m k map = cost_remove format m k map.ascending

pub returns-clause-counted : goal.returns-clause-counted
returns-clause-counted c format m es = beside_cost (tree format m) (tree format (batched m es))

pub returns-clause-stands : goal.returns-clause-stands
returns-clause-stands c old n u q rise is has shares = stands_by_key old n u q rise is has shares
