use Rattle.std.proofs.Common.{take}
use Rattle.std.specs.List.{AllByRecursion}
use Rattle.mst_key.specs.History.{IsSmall}
use Rattle.mst_edits.proofs.limits.are_within_limits.Given as goal

-- the edits so far are within their limits
abbrev pub invariant-loop-edit : goal.invariant-loop-edit
invariant-loop-edit l = AllByRecursion IsSmall (take l.edit-index l.edits)
