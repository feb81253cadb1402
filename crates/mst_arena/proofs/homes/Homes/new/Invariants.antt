use Rattle.mst_arena.proofs.Names.{◌≡◌, vec_capacity, vec_len, range_with_len}
use Rattle.mst_arena.proofs.homes.Homes.new.Given as goal

abbrev pub invariant-loop-row : goal.invariant-loop-row
invariant-loop-row g l = record {
  items : l.before.items ≡ range_with_len 0 l.row;
  len : vec_len l.before ≡ l.row;
  room : vec_capacity l.before ≡ l.rows;
}
