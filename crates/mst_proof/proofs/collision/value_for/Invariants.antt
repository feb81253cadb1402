use Rattle.mst_proof.proofs.Names.{◌≡◌, drop, Format, out-Node, tree_of, tree_of_child, held_value}
use Rattle.mst_proof.proofs.Beside.{held_among}
use Rattle.mst_proof.proofs.collision.value_for.Given as goal

-- the value of the key's entry is that among the entries to come
abbrev pub invariant-loop-entry : goal.invariant-loop-entry
invariant-loop-entry g l =
    let n = out-Node g.row.B.Denot l.node in
    (format : Format) → held_among format g.row.B.Denot l.key (drop l.entry-index n.entries.items)
    (tree_of_child format n.tail) ≡ held_value l.key (tree_of format l.node)
