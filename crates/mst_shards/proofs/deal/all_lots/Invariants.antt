use Rattle.mst_shards.proofs.Names.{into_iter_items, into_iter_len, StoreId, first_lots}
use Rattle.std.specs.Prelude.{◌≡◌, ◌+◌, ◌++◌, List, length, vec_items}
use Rattle.mst_shards.proofs.deal.all_lots.Given as goal

abbrev pub invariant-loop-seats_here : goal.invariant-loop-seats_here
invariant-loop-seats_here g l =
    (l.place + into_iter_len l.seats_here-iterator ≡ length l.stores)
    × ((front : List StoreId)
    × (vec_items l.fn.seats ≡ front ++ into_iter_items l.seats_here-iterator)
    × (length front ≡ l.place)
    × (vec_items l.lots ≡ first_lots front l.directory l.directory.passes))
