use Rattle.mst_c.proofs.Names.{◌≡◌, length, take, pairs_bytes, written}
use Rattle.mst_c.proofs.ranging.put_pairs.Given as goal

-- the pairs so far stand first, and the next one comes right after them
abbrev pub invariant-loop-key : goal.invariant-loop-key
invariant-loop-key l = record {
  at : l.at ≡ length (pairs_bytes (take l.key-index l.pairs));
  room : l.room ≡ written 0 (pairs_bytes (take l.key-index l.pairs)) l.fn.room;
}
