-- A load: which numbers it may have, and what is then written.
use Rattle.std.specs.Prelude.{◌≡◌, ◌≤◌, []}
use Rattle.mst_devices.specs.Device.{Breaks, Flow}
use Rattle.mst_load.specs.declared.engine.Report.{Report}
use Rattle.mst_load.specs.Lines.{lines_of}
use Rattle.mst_load.specs.Reports.{IsReportOf}
use Rattle.mst_arguments.specs.declared.task.Load.{Load}

-- a load may have these numbers
abbrev pub IsLoadSize : Load → Type 0
IsLoadSize size = (1 ≤ size.readers) × (size.readers ≤ 24) × (1 ≤ size.writers) × (size.writers ≤ 8)
    × (1 ≤ size.calls) × (size.calls ≤ 100000)

-- A load of a size that it may have came to its report, and the sink took the four lines.
pub record RanLoad {W : Type 0} (takes : Flow W) (size : Load) (w x : W) : Type 0 where
  pub fits : IsLoadSize size
  pub report : Report
  pub told : IsReportOf size.writers size.calls report
  pub taken : takes w (lines_of report) x

-- The same, but the sink failed: it took a prefix of the lines.
pub record BrokeLoad {W : Type 0} (takes : Flow W) (size : Load) (w x : W) : Type 0 where
  pub fits : IsLoadSize size
  pub report : Report
  pub told : IsReportOf size.writers size.calls report
  pub breaks : Breaks takes w [] (lines_of report) x
