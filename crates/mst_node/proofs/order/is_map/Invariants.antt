use Rattle.mst_node.proofs.Names.{take, AllByRecursion, IsKey, IsValue}
use Rattle.mst_node.proofs.order.is_map.Given as goal

-- the pairs so far are within their limits
abbrev pub invariant-loop-pair : goal.invariant-loop-pair
invariant-loop-pair l = AllByRecursion (λ p. IsKey p.0 × IsValue p.1) (take l.pair-index l.pairs)
