use Rattle.std.proofs.Common.{rules}
use Rattle.mst.proofs.progress.is_shown.Goals as goal

pub returns : goal.returns
returns c = search rules
