use Rattle.std.proofs.Common.{rules}
use Rattle.mst_devices.proofs.Writers.{all_held}
use Rattle.mst_devices.proofs.standard.StdSink.new.Goals as goal

pub returns-clause-fresh : goal.returns-clause-fresh
returns-clause-fresh g c = search rules

pub returns-clause-whole : goal.returns-clause-whole
returns-clause-whole g c = λ held taken last known took. all_held held taken _ last.known known took
