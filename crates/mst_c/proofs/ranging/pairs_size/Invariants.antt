use Rattle.mst_c.proofs.Names.{◌≡◌, ◌≤◌, length, take, pairs_bytes}
use Rattle.std.proofs.Common.{◌*◌}
use Rattle.mst_c.proofs.ranging.pairs_size.Given as goal

-- the pairs so far are this long, and each is at most 100 bytes
abbrev pub invariant-loop-key : goal.invariant-loop-key
invariant-loop-key l =
    (l.size ≡ length (pairs_bytes (take l.key-index l.pairs))) × (l.size ≤ 100 * l.key-index)
