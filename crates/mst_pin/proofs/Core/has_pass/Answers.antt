use Rattle.mst_pin.proofs.Names.{rules}
use Rattle.mst_pin.specs.Core.{state}
use Rattle.mst_pin.proofs.Core.has_pass.Goals as goal

pub returns-then-pass-gt0 : goal.returns-then-pass-gt0
unfolding state
returns-then-pass-gt0 c = search rules
