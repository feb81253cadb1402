use Rattle.mst_blocks.proofs.Names.{rules}
use Rattle.mst_blocks.proofs.Committing.{staged_ready}
use Rattle.mst_blocks.proofs.blocks.stage_one.Goals as goal

pub returns-in-Ok-clause-staged : goal.returns-in-Ok-clause-staged
returns-in-Ok-clause-staged g c = search (rules, staged_ready)
