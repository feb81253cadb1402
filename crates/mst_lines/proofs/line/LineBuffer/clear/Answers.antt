use Rattle.std.proofs.Common.{rules}
use Rattle.mst_lines.proofs.line.LineBuffer.clear.Goals as goal

pub clear-requires : goal.clear-requires
clear-requires c = search rules

pub returns : goal.returns
returns c = search rules
