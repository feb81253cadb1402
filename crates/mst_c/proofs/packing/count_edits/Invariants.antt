use Rattle.mst_c.proofs.Names.{◌≡◌, ◌+◌, ◌≤◌, List, length, Edit}
use Rattle.mst_c.proofs.Readings.{Reading}
use Rattle.mst_c.proofs.packing.count_edits.Given as goal

-- each edit so far took a byte at least
abbrev pub invariant-loop-rest : goal.invariant-loop-rest
invariant-loop-rest l = (before : List Edit) × (l.count ≡ length before)
    × Reading l.fn.packed before l.rest
    × (l.count + length l.rest ≤ length l.fn.packed)

abbrev pub decreases-loop-rest : goal.decreases-loop-rest
decreases-loop-rest l = length l.rest
