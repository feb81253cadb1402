use Rattle.mst_report.proofs.Lines.{apart, differ}
use Rattle.mst_report.proofs.laws.line_laws.Goals as goal

pub returns-clause-differ : goal.returns-clause-differ
returns-clause-differ c = differ

pub returns-clause-apart : goal.returns-clause-apart
returns-clause-apart c = apart
