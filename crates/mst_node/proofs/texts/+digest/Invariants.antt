use Rattle.mst_node.proofs.Names.{length, ◌++◌, take, flat_map, Holds256, out-Node, heading}
use Rattle.mst_node.proofs.NodeShapes.{text_of_entry}
use Rattle.mst_node.proofs.texts.+digest.Given as goal

-- the hasher holds the text up to the entry
abbrev pub invariant-node_digest-loop-entry : goal.invariant-node_digest-loop-entry
invariant-node_digest-loop-entry g l =
    let n = out-Node g.row.A.Denot l.node in
    Holds256 l.hasher
    (heading l.format n.layer (length n.entries.items) ++ flat_map (text_of_entry l.format)
    (take l.entry-index n.entries.items))
