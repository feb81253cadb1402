use Rattle.mst_node.proofs.Names.{◌≡◌, max, drop, greatest}
use Rattle.mst_node.proofs.making.greatest_of.Given as goal

-- the greatest so far and the greatest of those to come
abbrev pub invariant-loop-layer : goal.invariant-loop-layer
invariant-loop-layer l = max l.top (greatest (drop l.layer-index l.layers)) ≡ greatest l.layers
