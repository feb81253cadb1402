use Rattle.std.proofs.Common.{rules}
use Rattle.mst_devices.proofs.bytes.BytesSource.new.Goals as goal

pub returns : goal.returns
returns c = search rules
