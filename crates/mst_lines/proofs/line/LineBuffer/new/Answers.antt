use Rattle.std.proofs.Common.{rules}
use Rattle.mst_lines.proofs.line.LineBuffer.new.Goals as goal

pub new-requires : goal.new-requires
new-requires c = search rules

pub returns : goal.returns
returns c = search rules
