use Rattle.std.proofs.Common.{◌≡◌, vec_items}
use Rattle.mst_command.specs.Splits.{keys_of, parts_behind, splits_of, after_keys}
use Rattle.mst_command.proofs.Splitting.{left_size}
use Rattle.mst_command.proofs.splits.splits_in.Given as goal

-- what is still to be read decides
abbrev pub invariant-loop-rest : goal.invariant-loop-rest
invariant-loop-rest g l =
    splits_of l.fn.word ≡ after_keys (vec_items l.splits) (keys_of (parts_behind l.rest))

abbrev pub decreases-loop-rest : goal.decreases-loop-rest
decreases-loop-rest g l = left_size l.rest
