use Rattle.mst_arena.proofs.Names.{◌≡◌, take, vec_len, vec_capacity}
use Rattle.mst_arena.proofs.sweep.remember.Given as goal

-- the versions so far were copied into the room that is there
abbrev pub invariant-loop-version : goal.invariant-loop-version
invariant-loop-version g l = record {
  items : l.last.items ≡ take l.version-index l.live;
  len : vec_len l.last ≡ l.version-index;
  room : vec_capacity l.last ≡ vec_capacity l.initial.last;
}
