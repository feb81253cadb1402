use Rattle.mst_arena.proofs.Names.{◌≡◌, replicate, vec_capacity, vec_len}
use Rattle.mst_arena.proofs.desk.copies.Given as goal

abbrev pub invariant-loop : goal.invariant-loop
invariant-loop g l = record {
  items : l.all.items ≡ replicate l.counter l.value;
  len : vec_len l.all ≡ l.counter;
  room : vec_capacity l.all ≡ l.count;
}
