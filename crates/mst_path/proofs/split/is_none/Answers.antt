use Rattle.mst_path.proofs.Names.{rules}
use Rattle.mst_path.proofs.split.is_none.Goals as goal

pub returns-then-run-eq0 : goal.returns-then-run-eq0
returns-then-run-eq0 c = search rules

pub returns-else-run-eq0 : goal.returns-else-run-eq0
returns-else-run-eq0 c = search rules
