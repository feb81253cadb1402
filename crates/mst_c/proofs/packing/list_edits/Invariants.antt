use Rattle.mst_c.proofs.Names.{length}
use Rattle.mst_c.proofs.Readings.{Reading}
use Rattle.mst_c.proofs.packing.list_edits.Given as goal

abbrev pub invariant-loop-rest : goal.invariant-loop-rest
invariant-loop-rest l = Reading l.fn.packed l.list.items l.rest

abbrev pub decreases-loop-rest : goal.decreases-loop-rest
decreases-loop-rest l = length l.rest
