use Rattle.mst_batch.proofs.Names.{◌≡◌, ◌+◌, ℕ, length, map, take, Placed, out-PlanNode, plan_of_node, planned_entry, IsPlan}
use Rattle.mst_path.specs.Takes.{StaysBeside}
use Rattle.mst_path.specs.Writing.{IsWriter}
use Rattle.mst_batch.proofs.PlanShapes.{items}
use Rattle.mst_batch.proofs.Sowings.{SownSoFar}
use Rattle.mst_batch.proofs.sowing.+sow.Given as goal

-- the entries so far are written
abbrev pub invariant-sow_node-loop-entry : goal.invariant-sow_node-loop-entry
invariant-sow_node-loop-entry g l = record {
  writer : IsWriter l.writer;
  layer : l.writer.layer ≡ (out-PlanNode g.row.B.Denot l.node).layer;
  left : l.writer.left + l.entry-index ≡ length (items g.row.B.Denot l.node);
  beside : StaysBeside g.R.Rows.blank g.R.Rows.kept l.fn.rows l.rows;
  so_far : (at : ℕ → Placed) → IsPlan l.format at (g.R.Rows.content l.fn.rows) l.fn.desk
      (plan_of_node l.node) → SownSoFar l.format at l.fn.desk l.desk
      (g.R.Rows.content l.fn.rows) (g.R.Rows.content l.rows) l.writer
      (map planned_entry (take l.entry-index (items g.row.B.Denot l.node)));
}
