use Rattle.mst_batch.proofs.Names.{take, IsTop}
use Rattle.mst_batch.proofs.top.top_of.Given as goal

-- the top of the items so far
abbrev pub invariant-loop-item : goal.invariant-loop-item
invariant-loop-item l = IsTop l.top.layer l.top.has_tree (take l.item-index l.items)
