use Rattle.mst_script.proofs.Names.{◌++◌, ◌+◌, ◌≤◌, IsPermutation, everyone}
use Rattle.std.proofs.Common.{vec_len, vec_capacity}
use Rattle.mst_script.proofs.passes.Passes.unpin_all.Given as goal

-- the passes are still all there, with room on either side
abbrev pub invariant-loop-pinned : goal.invariant-loop-pinned
invariant-loop-pinned g l = record {
  same : IsPermutation (everyone l.fn.self)
      (l.self-inside.free.items ++ l.self-inside.pinned.items);
  free_room : vec_len l.self-inside.free + vec_len l.self-inside.pinned ≤ vec_capacity
      l.self-inside.free;
  pinned_room : vec_len l.self-inside.free + vec_len l.self-inside.pinned ≤ vec_capacity
      l.self-inside.pinned;
}

abbrev pub decreases-loop-pinned : goal.decreases-loop-pinned
decreases-loop-pinned g l = vec_len l.self-inside.pinned
