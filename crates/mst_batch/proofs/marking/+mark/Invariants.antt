use Rattle.mst_batch.proofs.Names.{map, take, AddsMarks, planned_entry}
use Rattle.mst_batch.proofs.Marks.{list_links}
use Rattle.mst_batch.proofs.PlanShapes.{items}
use Rattle.mst_batch.proofs.marking.+mark.Given as goal

-- the marks of the gaps so far
abbrev pub invariant-mark_node-loop-entry : goal.invariant-mark_node-loop-entry
invariant-mark_node-loop-entry g l = AddsMarks l.fn.marks.items l.marks.items
    (list_links (map planned_entry (take l.entry-index (items g.row.B.Denot l.node))))
