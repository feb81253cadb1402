use Rattle.mst_shards.proofs.Names.{drop, AreSplits}
use Rattle.std.proofs.Common.{◌↔◌}
use Rattle.mst_shards.proofs.opening.rise.Given as goal

-- the splits that are left decide
abbrev pub invariant-loop-split : goal.invariant-loop-split
invariant-loop-split l =
    AreSplits l.low l.splits ↔ AreSplits l.below (drop l.split-index l.splits)
