use Rattle.mst_node.proofs.Names.{rules}
use Rattle.mst_node.proofs.flat.fits.Goals as goal

pub returns-then-layer_of-layer : goal.returns-then-layer_of-layer
returns-then-layer_of-layer c = search rules

pub returns-in-None : goal.returns-in-None
returns-in-None c = search rules

pub returns-in-Some : goal.returns-in-Some
returns-in-Some c = search rules
