use Rattle.std.proofs.Common.{rules}
use Rattle.mst_lines.proofs.reader.Reader.new.Goals as goal

pub returns-in_err-piece : goal.returns-in_err-piece
returns-in_err-piece g c = search rules

pub invariant_of-result : goal.invariant_of-result
invariant_of-result g c = search rules

pub returns : goal.returns
returns g c = search rules
