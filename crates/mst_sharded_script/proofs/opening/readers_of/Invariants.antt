use Rattle.mst_sharded_script.proofs.Names.{arc_value, AllByRecursion, into_iter_items, Dealt, IsLot, reader_of}
use Rattle.std.specs.Prelude.{◌≡◌, ◌++◌, List, map, vec_items}
use Rattle.mst_sharded_script.proofs.opening.readers_of.Given as goal

-- the lots so far have their readers, and the others are still to come
abbrev pub invariant-loop-lot : goal.invariant-loop-lot
invariant-loop-lot g l =
    (front : List Dealt) × (vec_items l.fn.lots ≡ front ++ into_iter_items l.lot-iterator)
    × (vec_items l.readers ≡ map (reader_of (arc_value l.fn.shared).splits) front)
    × AllByRecursion (IsLot (arc_value l.fn.shared)) (into_iter_items l.lot-iterator)
