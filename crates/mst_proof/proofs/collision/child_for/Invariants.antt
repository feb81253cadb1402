use Rattle.mst_proof.proofs.Names.{◌≡◌, drop, Format, out-Node, tree_of, tree_of_child, gap_tree}
use Rattle.mst_proof.proofs.Beside.{gap_among}
use Rattle.mst_proof.proofs.collision.child_for.Given as goal

-- the gap of the key is that among the entries to come
abbrev pub invariant-loop-entry : goal.invariant-loop-entry
invariant-loop-entry g l =
    let n = out-Node g.row.B.Denot l.node in
    (format : Format) → gap_among format g.row.B.Denot l.key (drop l.entry-index n.entries.items)
    (tree_of_child format n.tail) ≡ gap_tree l.key (tree_of format l.node)
