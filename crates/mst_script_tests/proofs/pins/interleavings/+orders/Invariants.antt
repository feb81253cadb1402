use Rattle.mst_script_tests.proofs.pins.interleavings.+orders.Given as goal

abbrev pub decreases-orders : goal.decreases-orders
decreases-orders g l = l.left
