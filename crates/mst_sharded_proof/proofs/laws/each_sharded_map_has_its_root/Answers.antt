use Rattle.mst_sharded_proof.proofs.Names.{refl}
use Rattle.mst_sharded_proof.proofs.laws.each_sharded_map_has_its_root.Goals as goal

pub returns-clause-has : goal.returns-clause-has
returns-clause-has c format m splits is = record { sharded = is; root = refl }

pub returns-clause-only : goal.returns-clause-only
returns-clause-only c format m splits d has = has.root
