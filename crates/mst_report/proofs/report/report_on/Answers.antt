use Rattle.std.proofs.Common.{rules}
use Rattle.mst_report.proofs.report.report_on.Goals as goal

pub returns-then-text-gt-LIMIT : goal.returns-then-text-gt-LIMIT
returns-then-text-gt-LIMIT g c = search rules

pub returns-in-Err : goal.returns-in-Err
returns-in-Err g c = search rules

pub returns : goal.returns
returns g c = search rules
