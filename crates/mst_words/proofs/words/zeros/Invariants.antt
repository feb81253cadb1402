use Rattle.mst_words.proofs.Names.{◌≡◌, replicate}
use Rattle.std.proofs.Common.{vec_capacity, vec_len}
use Rattle.mst_words.proofs.words.zeros.Given as goal

abbrev pub invariant-loop : goal.invariant-loop
invariant-loop g l = record {
  items : l.words.items ≡ replicate l.counter 0;
  len : vec_len l.words ≡ l.counter;
  room : vec_capacity l.words ≡ l.count;
}
