use Rattle.mst_store.proofs.Names.{rules}
use Rattle.mst_store.proofs.store.is_shape.Goals as goal

pub returns-then-contains : goal.returns-then-contains
returns-then-contains c = search rules

pub returns-else-contains : goal.returns-else-contains
returns-else-contains c = search rules
