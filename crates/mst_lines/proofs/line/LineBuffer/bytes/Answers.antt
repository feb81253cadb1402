use Rattle.std.proofs.Common.{rules}
use Rattle.mst_lines.proofs.line.LineBuffer.bytes.Goals as goal

pub returns-then-self-clause-bytes : goal.returns-then-self-clause-bytes
returns-then-self-clause-bytes c = search rules

pub returns-then-self-clause-size : goal.returns-then-self-clause-size
returns-then-self-clause-size c = search rules

pub as_slice-requires : goal.as_slice-requires
as_slice-requires c = search rules

pub returns-clause-bytes : goal.returns-clause-bytes
returns-clause-bytes c = search rules

pub returns-clause-size : goal.returns-clause-size
returns-clause-size c = search rules
