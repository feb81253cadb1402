use Rattle.mst_shards.proofs.Names.{into_iter_items, into_iter_len, Known, Dealt, dealt_more}
use Rattle.std.specs.Prelude.{◌≡◌, ℕ, ◌+◌, ◌<◌, ◌≤◌, ◌++◌, List, length, get_or, vec_items}
use Rattle.mst_shards.proofs.deal.hand_out.Given as goal

abbrev pub invariant-loop-pass : goal.invariant-loop-pass
invariant-loop-pass g l =
    (l.place + into_iter_len l.pass-iterator ≡ length (vec_items l.fn.lots))
    × (length (vec_items l.lots) ≡ length (vec_items l.fn.lots))
    × ((front : List Known) × (vec_items l.fn.passes ≡ front ++ into_iter_items l.pass-iterator)
    × (length front ≡ l.place))
    × ((k : ℕ) (d : Dealt) (e : Known) → k < l.place → get_or (vec_items l.lots) k d
    ≡ dealt_more (get_or (vec_items l.fn.lots) k d) (get_or (vec_items l.fn.passes) k e))
    × ((k : ℕ) (d : Dealt) → l.place ≤ k → get_or (vec_items l.lots) k d
    ≡ get_or (vec_items l.fn.lots) k d)
