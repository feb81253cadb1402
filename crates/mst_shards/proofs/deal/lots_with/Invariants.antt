use Rattle.mst_shards.proofs.Names.{into_iter_items, Known}
use Rattle.std.specs.Prelude.{◌≡◌, ◌++◌, List, map, vec_items}
use Rattle.mst_shards.proofs.Dealing.{lot_with}
use Rattle.mst_shards.proofs.deal.lots_with.Given as goal

-- those that were taken are lots
abbrev pub invariant-loop-pass : goal.invariant-loop-pass
invariant-loop-pass g l =
    (front : List Known) × (vec_items l.fn.passes ≡ front ++ into_iter_items l.pass-iterator)
    × (vec_items l.lots ≡ map lot_with front)
