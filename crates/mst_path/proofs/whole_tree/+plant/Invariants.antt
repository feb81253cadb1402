use Rattle.mst_path.proofs.Names.{◌≡◌, ◌+◌, length, map, take, tree_entry, out-Node, StaysBeside, IsWriter}
use Rattle.mst_path.proofs.lemmas.trees.Nodes.{items}
use Rattle.mst_path.proofs.lemmas.trees.Growing.{PlantedSoFar}
use Rattle.mst_path.proofs.whole_tree.+plant.Given as goal

-- the entries so far are planted
abbrev pub invariant-plant_node-loop-entry : goal.invariant-plant_node-loop-entry
invariant-plant_node-loop-entry g l = record {
  writer : IsWriter l.writer;
  layer : l.writer.layer ≡ (out-Node g.row.B.Denot l.node).layer;
  left : l.writer.left + l.entry-index ≡ length (items l.format g.row.B.Denot l.node);
  beside : StaysBeside g.R.Rows.blank g.R.Rows.kept l.fn.rows l.rows;
  so_far : PlantedSoFar l.format l.fn.desk l.desk (g.R.Rows.content l.fn.rows)
      (g.R.Rows.content l.rows) l.writer
      (map (tree_entry l.format) (take l.entry-index (items l.format g.row.B.Denot l.node)));
}
