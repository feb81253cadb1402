use Rattle.mst_node.proofs.Names.{length, ◌≡◌, ◌++◌, take, IfSome, flat_map, heading, out-Node}
use Rattle.mst_node.proofs.NodeShapes.{text_of_entry}
use Rattle.mst_node.proofs.texts.text_in.Given as goal

-- the text up to the entry
abbrev pub invariant-loop-entry : goal.invariant-loop-entry
invariant-loop-entry g l =
    let n = out-Node g.row.A.Denot l.node in
    IfSome l.out (λ bytes. bytes ≡ heading l.format n.layer (length n.entries.items) ++ flat_map
    (text_of_entry l.format) (take l.entry-index n.entries.items))
