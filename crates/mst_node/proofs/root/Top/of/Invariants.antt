use Rattle.mst_node.proofs.Names.{take, IsTop}
use Rattle.mst_node.proofs.root.Top.of.Given as goal

-- the top of the pairs so far
abbrev pub invariant-loop-pair : goal.invariant-loop-pair
invariant-loop-pair l = IsTop l.format (take l.pair-index l.pairs) l.top
