use Rattle.mst_versions.proofs.Names.{◌≡◌, IsFiled}
use Rattle.mst_versions.proofs.roots.store_all.Given as goal

abbrev pub invariant-loop-k : goal.invariant-loop-k
invariant-loop-k g l =
    record {
      kept : l.seat
          ≡ record l.fn.seat {
            me =
                (record l.fn.seat.me.0 { known_words = l.seat.me.0.known_words }, l.fn.seat.me.1);
          };
      filed : IsFiled l.which l.k l.words l.fn.seat.me.0.known_words l.seat.me.0.known_words;
    }
