use Rattle.mst_words.proofs.Names.{◌≡◌, ◌+◌, ◌<◌, ℕ, length, get_or, PartStored}
use Rattle.mst_words.specs.Records as records
use Rattle.mst_words.proofs.board.Board.copy_part.Given as goal

abbrev pub invariant-loop-k : goal.invariant-loop-k
invariant-loop-k g l =
    record {
      table : l.seat.table_id ≡ l.fn.seat.table_id;
      id : l.seat.id ≡ l.fn.seat.id;
      kept : l.seat.me ≡ (
        record l.fn.seat.me.0 { known_words = l.seat.me.0.known_words },
        l.fn.seat.me.1,
      );
      stored : PartStored l.fn.seat.me.0.rows l.to l.at l.k
          (records.known_row l.fn.seat.me.0 l.from)
          l.fn.seat.me.0.known_words l.seat.me.0.known_words;
      length : length l.words ≡ g.row.N;
      so_far : (j : ℕ)
          → j < l.k → get_or l.words j 0 ≡ records.known_row l.fn.seat.me.0 l.from
          (l.at + j);
    }

abbrev pub invariant-loop-k-2 : goal.invariant-loop-k-2
invariant-loop-k-2 g l =
    record {
      table : l.seat.table_id ≡ l.fn.seat.table_id;
      id : l.seat.id ≡ l.fn.seat.id;
      kept : l.seat.me ≡ (
        record l.fn.seat.me.0 { known_words = l.seat.me.0.known_words },
        l.fn.seat.me.1,
      );
      stored : PartStored l.fn.seat.me.0.rows l.to l.at (g.row.N + l.k)
          (records.known_row l.fn.seat.me.0 l.from) l.fn.seat.me.0.known_words
          l.seat.me.0.known_words;
    }
