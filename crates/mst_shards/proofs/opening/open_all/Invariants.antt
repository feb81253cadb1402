use Rattle.mst_shards.proofs.Names.{AllByRecursion, HasShape}
use Rattle.std.specs.Prelude.{◌≡◌, length, vec_items}
use Rattle.mst_shards.proofs.opening.open_all.Given as goal

abbrev pub invariant-loop : goal.invariant-loop
invariant-loop g l =
    (length (vec_items l.stores) ≡ l.counter)
    × AllByRecursion (HasShape l.fn.shape) (vec_items l.stores)
    × (vec_items l.seats ≡ vec_items l.stores)
