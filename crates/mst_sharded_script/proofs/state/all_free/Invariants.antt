use Rattle.mst_sharded_script.proofs.Names.{into_iter_items, Whole, are_free}
use Rattle.std.specs.Prelude.{◌≡◌, ◌++◌, List, vec_items}
use Rattle.mst_sharded_script.proofs.state.all_free.Given as goal

-- the readers so far are passes, and the others are still to come
abbrev pub invariant-loop-reader : goal.invariant-loop-reader
invariant-loop-reader g l =
    (front : List Whole) × (vec_items l.fn.readers ≡ front ++ into_iter_items l.reader-iterator)
    × (vec_items l.passes ≡ are_free front)
