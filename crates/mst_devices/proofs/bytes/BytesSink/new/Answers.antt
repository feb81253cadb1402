use Rattle.std.proofs.Common.{rules}
use Rattle.mst_devices.proofs.bytes.BytesSink.new.Goals as goal

pub returns-in_err-bytes : goal.returns-in_err-bytes
returns-in_err-bytes g c = search rules

pub invariant_of-result : goal.invariant_of-result
invariant_of-result g c = search rules

pub returns : goal.returns
returns g c = search rules
