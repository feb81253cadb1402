use Rattle.std.proofs.Common.{◌≡◌, ◌++◌, take}
use Rattle.mst_edits.proofs.merging.push_all.Given as goal

abbrev pub invariant-loop-pair : goal.invariant-loop-pair
invariant-loop-pair g l = l.list.items ≡ l.initial.list.items ++ take l.pair-index l.pairs
