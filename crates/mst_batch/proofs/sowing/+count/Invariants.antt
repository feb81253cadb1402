use Rattle.mst_batch.proofs.Names.{◌≡◌, ◌+◌, ◌-◌, map, take, ◌^◌, min, planned_entry}
use Rattle.mst_batch.proofs.PlanShapes.{items, list_rows}
use Rattle.mst_batch.proofs.sowing.+count.Given as goal

-- the rows of the head and of the entries so far, the greatest `u32` if there are more
abbrev pub invariant-rows_of_node-loop-entry : goal.invariant-rows_of_node-loop-entry
invariant-rows_of_node-loop-entry g l = l.rows ≡ min (1 + list_rows
    (map planned_entry (take l.entry-index (items g.row.B.Denot l.node)))) (2 ^ 32 - 1)
