use Rattle.mst_node.proofs.Names.{◌+◌, length}
use Rattle.mst_node.proofs.HeldLaws.{held_alone, held_same, held_more}
use Rattle.mst_node.proofs.laws.held_laws.Goals as goal

pub returns-clause-last : goal.returns-clause-last
returns-clause-last c format h = held_alone format h

pub returns-clause-same : goal.returns-clause-same
returns-clause-same c format h one other same = held_same format h one other same (length h + 1)

pub returns-clause-more : goal.returns-clause-more
returns-clause-more c format h one other has = held_more format h one other has (length h + 1)
