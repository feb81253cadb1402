use Rattle.mst_arena.proofs.Names.{◌≡◌, replicate, None, vec_capacity, vec_len}
use Rattle.mst_arena.proofs.plain.PlainRows.new.Given as goal

abbrev pub invariant-loop : goal.invariant-loop
invariant-loop g l = record {
  items : l.places.items ≡ replicate l.counter None;
  len : vec_len l.places ≡ l.counter;
  room : vec_capacity l.places ≡ l.rows;
}
