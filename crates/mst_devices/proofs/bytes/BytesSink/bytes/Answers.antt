use Rattle.std.proofs.Common.{rules}
use Rattle.mst_devices.proofs.bytes.BytesSink.bytes.Goals as goal

pub returns : goal.returns
returns g c = search rules
