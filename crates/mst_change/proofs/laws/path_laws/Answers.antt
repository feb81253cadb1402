use Rattle.mst_change.proofs.Put.Trees.{put_tree}
use Rattle.mst_change.proofs.Remove.Trees.{removed_tree}
use Rattle.mst_change.proofs.laws.path_laws.Goals as goal

pub returns-clause-put : goal.returns-clause-put
returns-clause-put c format m k v map = put_tree format m k v map.ascending

pub returns-clause-remove : goal.returns-clause-remove
returns-clause-remove c format m k map = removed_tree format m k map.ascending
