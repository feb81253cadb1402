-- A tree has as many nodes as trees that are not empty stand in it.
use Rattle.mst_path.proofs.Names.{◌≡◌, length, length-append, refl, arith, Tree, empty, node, Entries, last, entry, subtrees, entries_subtrees, node_count, entries_node_count}

mutual
  pub count_nodes : (t : Tree) → node_count t ≡ length (subtrees t)
  count_nodes empty = refl
  count_nodes (node format l es) = omega (arith, count_below es)

  count_below : (es : Entries) → entries_node_count es ≡ length (entries_subtrees es)
  count_below (last child) = count_nodes child
  count_below (entry child key value rest) =
      omega (
        arith,
        count_nodes child,
        count_below rest,
        length-append (subtrees child)
            (entries_subtrees rest),
      )
