use Rattle.mst_sharded_script.proofs.Names.{◌≤◌}
use Rattle.std.specs.Prelude.{◌≡◌, take, length, vec_len, vec_capacity, vec_items}
use Rattle.mst_sharded_script.proofs.opening.copied.Given as goal

abbrev pub invariant-loop-split : goal.invariant-loop-split
invariant-loop-split g l =
    (vec_items l.list ≡ take l.split-index l.splits)
    × (vec_len l.list ≡ l.split-index) × (length l.splits ≤ vec_capacity l.list)
