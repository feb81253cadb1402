use Rattle.mst_c_blocks.proofs.Names.{◌≡◌, ◌++◌, length, splits_bytes}
use Rattle.mst_c_blocks.proofs.splits.list_splits.Given as goal

-- the splits so far and the bytes that are left are all
abbrev pub invariant-loop-rest : goal.invariant-loop-rest
invariant-loop-rest l = l.fn.packed ≡ splits_bytes l.list.items ++ l.rest

abbrev pub decreases-loop-rest : goal.decreases-loop-rest
decreases-loop-rest l = length l.rest
