use Rattle.std.proofs.Common.{rules}
use Rattle.mst_report.specs.Report.{line_of}
use Rattle.mst_report.proofs.report.Report.line.Goals as goal

pub new-line-requires : goal.new-line-requires
new-line-requires c = search rules

pub extend-requires : goal.extend-requires
extend-requires c = search rules

pub extend_digits-requires : goal.extend_digits-requires
extend_digits-requires c = search rules

pub extend-requires-in-Absent : goal.extend-requires-in-Absent
extend-requires-in-Absent c = search rules

pub extend-requires-in-Refused : goal.extend-requires-in-Refused
extend-requires-in-Refused c = search rules

pub extend-requires-in-NotHex : goal.extend-requires-in-NotHex
extend-requires-in-NotHex c = search rules

pub extend-requires-in-Long : goal.extend-requires-in-Long
extend-requires-in-Long c = search rules

pub extend-requires-2 : goal.extend-requires-2
extend-requires-2 c = search rules

pub returns : goal.returns
unfolding line_of
returns c = search rules
