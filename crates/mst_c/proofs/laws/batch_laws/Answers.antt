use Rattle.mst_c.proofs.Packed.{packed}
use Rattle.mst_c.proofs.Unpacked.{only}
use Rattle.mst_c.proofs.laws.batch_laws.Goals as goal

pub returns : goal.returns
returns c = record { packed = packed; only = only }
