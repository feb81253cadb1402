use Rattle.mst_load.proofs.Names.{vec_len, vec_items, round_left}
use Rattle.std.specs.Prelude.{◌≡◌, ◌+◌, ◌++◌, ◌≤◌}
use Rattle.mst_load.proofs.calls.append.Given as goal

abbrev pub invariant-loop-place : goal.invariant-loop-place
invariant-loop-place g l =
    (vec_items l.pairs ≡ vec_items l.fn.pairs ++ round_left l.fn.writer l.fn.calls l.place)
    × (vec_len l.pairs ≤ vec_len l.fn.pairs + l.place)
