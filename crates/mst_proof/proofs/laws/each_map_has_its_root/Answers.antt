use Rattle.mst_proof.proofs.Names.{refl}
use Rattle.mst_proof.proofs.laws.each_map_has_its_root.Goals as goal

pub returns-clause-has : goal.returns-clause-has
returns-clause-has c format m map few = record { map = map; few = few; root = refl }

pub returns-clause-only : goal.returns-clause-only
returns-clause-only c format m d has = has.root
