use Rattle.mst_arena.proofs.Names.{◌≡◌, replicate, vec_capacity, vec_len}
use Rattle.mst_arena.proofs.free_rows.zeros.Given as goal

abbrev pub invariant-loop : goal.invariant-loop
invariant-loop g l = record {
  items : l.words.items ≡ replicate l.counter 0;
  len : vec_len l.words ≡ l.counter;
  room : vec_capacity l.words ≡ l.count;
}
