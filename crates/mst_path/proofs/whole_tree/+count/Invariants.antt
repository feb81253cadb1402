use Rattle.mst_path.proofs.Names.{◌≡◌, ◌+◌, map, take, Format, tree_entry}
use Rattle.mst_path.proofs.lemmas.trees.Nodes.{items, entries_needed}
use Rattle.mst_path.proofs.whole_tree.+count.Given as goal

-- the rows of the head and of the entries so far
abbrev pub invariant-rows_of_node-loop-entry : goal.invariant-rows_of_node-loop-entry
invariant-rows_of_node-loop-entry g l = (format : Format) → l.rows ≡ 1 + entries_needed
    (map (tree_entry format) (take l.entry-index (items format g.row.B.Denot l.node)))
