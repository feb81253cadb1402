use Rattle.std.proofs.Common.{◌≡◌}
use Rattle.mst_store_tests.proofs.opening.refused_heaps.Given as goal

abbrev pub invariant-loop-units : goal.invariant-loop-units
invariant-loop-units g l = l.seats ≡ l.store
