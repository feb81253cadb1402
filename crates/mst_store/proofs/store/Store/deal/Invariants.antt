use Rattle.mst_store.proofs.Names.{◌≡◌, ◌+◌, [], first_passes}
use Rattle.std.proofs.Common.{vec_len, vec_capacity}
use Rattle.mst_words.specs.World.{dealer}
use Rattle.mst_store.proofs.store.Store.deal.Given as goal

abbrev pub invariant-loop-index : goal.invariant-loop-index
invariant-loop-index g l = record {
  dealt : l.passes.items ≡ first_passes l.fn.self l.index;
  counted : vec_len l.passes ≡ l.index;
  room : vec_capacity l.passes ≡ l.count;
  own : l.token.table_id ≡ l.fn.self.table;
  next : l.token.me ≡ (dealer l.fn.self.rows l.fn.self.passes l.fn.self.format (l.index + 1), []);
}
