use Rattle.mst_node.proofs.Names.{take, IsAscending}
use Rattle.mst_node.proofs.order.ascending.Given as goal

-- the pairs so far rise
abbrev pub invariant-loop-i : goal.invariant-loop-i
invariant-loop-i l = IsAscending (take l.i l.pairs)
