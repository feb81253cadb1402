use Rattle.mst_sharded_script.proofs.Names.{into_iter_items, Pair, puts_of}
use Rattle.std.specs.Prelude.{◌≡◌, ◌++◌, List, vec_items}
use Rattle.mst_sharded_script.proofs.moving.puts.Given as goal

-- the pairs so far are put, and the others are still to come
abbrev pub invariant-loop-pair : goal.invariant-loop-pair
invariant-loop-pair g l =
    (front : List Pair) × (vec_items l.fn.pairs ≡ front ++ into_iter_items l.pair-iterator)
    × (vec_items l.list ≡ puts_of front)
