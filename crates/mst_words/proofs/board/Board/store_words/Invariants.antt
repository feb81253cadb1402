use Rattle.mst_words.proofs.Names.{◌≡◌, RowStored}
use Rattle.mst_words.proofs.board.Board.store_words.Given as goal

abbrev pub invariant-loop-k : goal.invariant-loop-k
invariant-loop-k g l =
    record {
      table : l.seat.table_id ≡ l.fn.seat.table_id;
      id : l.seat.id ≡ l.fn.seat.id;
      kept : l.seat.me ≡ (
        record l.fn.seat.me.0 { known_words = l.seat.me.0.known_words },
        l.fn.seat.me.1,
      );
      stored : RowStored l.fn.seat.me.0.rows l.row l.k l.words l.fn.seat.me.0.known_words
          l.seat.me.0.known_words;
    }
