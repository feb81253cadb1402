use Rattle.std.proofs.Common.{rules}
use Rattle.mst_report.proofs.words.root_in.Goals as goal

pub from_hex-requires : goal.from_hex-requires
from_hex-requires c = search rules

pub returns : goal.returns
returns c = search rules
