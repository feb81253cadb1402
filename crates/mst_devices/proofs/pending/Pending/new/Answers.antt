use Rattle.std.proofs.Common.{rules}
use Rattle.mst_devices.proofs.pending.Pending.new.Goals as goal

pub returns-in_err-bytes : goal.returns-in_err-bytes
returns-in_err-bytes g c = search rules

pub returns : goal.returns
returns g c = search rules
