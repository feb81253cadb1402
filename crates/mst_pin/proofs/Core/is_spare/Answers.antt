use Rattle.mst_pin.proofs.Names.{rules}
use Rattle.mst_pin.specs.Core.{state}
use Rattle.mst_pin.proofs.Core.is_spare.Goals as goal

pub returns-then-number-self : goal.returns-then-number-self
unfolding state
returns-then-number-self c = search rules

pub returns-else-number-self : goal.returns-else-number-self
unfolding state
returns-else-number-self c = search rules
