use Rattle.std.proofs.Common.{rules}
use Rattle.mst_report.proofs.report.Report.is_refusal.Goals as goal

pub returns : goal.returns
returns c = search rules
