use Rattle.mst_pin.specs.Core.{state}
use Rattle.mst_pin.proofs.Options.{is_due}
use Rattle.mst_pin.proofs.Core.transfer_waits.Goals as goal

pub returns : goal.returns
unfolding state
returns c = is_due c.is_some.result c.args.self.now.words.returned c.is_some.ensures
