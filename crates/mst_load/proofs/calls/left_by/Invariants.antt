use Rattle.mst_load.proofs.Names.{vec_len, vec_items}
use Rattle.std.specs.Prelude.{◌≡◌, ◌*◌, ◌≤◌}
use Rattle.mst_load.proofs.Left.{built_by}
use Rattle.mst_load.proofs.calls.left_by.Given as goal

abbrev pub invariant-loop-index : goal.invariant-loop-index
invariant-loop-index g l =
    (vec_items l.pairs ≡ built_by l.index l.fn.calls) × (vec_len l.pairs ≤ 32 * l.index)
