use Rattle.mst_words.proofs.Names.{◌≡◌, ◌<◌, ◌^◌, content_of, Goes}
use Rattle.mst_words.proofs.board.Board.search.Given as goal

-- the search in the entries that are left ends where the search in all ends
abbrev pub invariant-loop-passed : goal.invariant-loop-passed
invariant-loop-passed g l =
    record {
      table : l.seat.table_id ≡ l.fn.seat.table_id;
      id : l.seat.id ≡ l.fn.seat.id;
      me : l.seat.me ≡ l.fn.seat.me;
      narrow : l.link < 2 ^ 32;
      goes : Goes l.key (content_of l.fn.seat.me.0) l.count l.first l.passed l.link;
    }
