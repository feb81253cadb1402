use Rattle.mst_words.proofs.Names.{◌≡◌, ◌+◌, ◌<◌, ℕ, length, get_or}
use Rattle.mst_words.specs.Records as records
use Rattle.mst_words.proofs.board.Board.words_of.Given as goal

abbrev pub invariant-loop-k : goal.invariant-loop-k
invariant-loop-k g l =
    record {
      table : l.seat.table_id ≡ l.fn.seat.table_id;
      id : l.seat.id ≡ l.fn.seat.id;
      me : l.seat.me ≡ l.fn.seat.me;
      length : length l.words ≡ g.row.N;
      so_far : (j : ℕ)
          → j < l.k → get_or l.words j 0 ≡ records.known_row l.fn.seat.me.0 l.row
          (l.from + j);
    }
