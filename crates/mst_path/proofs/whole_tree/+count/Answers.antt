use Rattle.mst_path.proofs.Names.{◌≡◌, ◌+◌, ◌<◌, ◌≤◌, ℕ, length, get_or, map, take, ap, refl, subst, arith, rules, common_steps, Format, tree_of_child, tree_entry, out-Entry, the_lemmas, rows_needed}
use Rattle.mst_node.specs.Shape.{tree_of}
use Rattle.mst_node.proofs.NodeShapes.{child-fits, tail-fits}
use Rattle.mst_path.proofs.lemmas.trees.Nodes.{items, entries_needed, needed_take, needed_more, needed_ahead, take_all, node_needed, node_child, node_last, nodes_le}
use Rattle.mst_path.proofs.whole_tree.+count.Given.{Over}
use Rattle.mst_path.proofs.whole_tree.+count.Goals.{rows_of_node-After-entry-item}
use Rattle.mst_path.proofs.whole_tree.+count.Goals as goal

-- ---- the next entry

module _ (g : Over) (t : ℕ) (c : goal.rows_of_node-After-entry-item g t) (format : Format) where
  inside : c.loop-entry.entry-index < length (items format g.row.B.Denot c.args.node.now)
  inside = subst (λ xs. c.loop-entry.entry-index < length xs) c.deref-entry-items.ensures.value
      c.loop-entry-test.true

  item_is : c.entry-item.result ≡ get_or (items format g.row.B.Denot c.args.node.now)
      c.loop-entry.entry-index c.entry-item.result
  item_is =
      subst (λ xs. c.entry-item.result ≡ get_or xs c.loop-entry.entry-index c.entry-item.result)
      c.deref-entry-items.ensures.value c.entry-item.is

  rows_ahead : entries_needed
      (map (tree_entry format)
      (take c.loop-entry.entry-index (items format g.row.B.Denot c.args.node.now))) + rows_needed
      (tree_of_child format (out-Entry g.row.B.Denot c.entry-item.result).child) + length
      (items format g.row.B.Denot c.args.node.now) + 1 ≤ rows_needed
      (tree_of format c.args.node.now) + c.loop-entry.entry-index
  rows_ahead = needed_ahead format g.row.B.Denot c.args.node.now c.loop-entry.entry-index
      c.entry-item.result inside item_is

pub rows_of_node-rows_of_child-requires : goal.rows_of_node-rows_of_child-requires
rows_of_node-rows_of_child-requires g t c κs within =
    let format = c.requires.tree.0 in
    let A = g.row.B.Denot in
    let n = c.args.node.now in
    let i = c.loop-entry.entry-index in
    let e = c.entry-item.result in
    let here = (goal.at.rows_of_node-rows_of_child-requires g t c).After-entry-item in (
      grind (arith, common_steps, the_lemmas),
      (
        search rules,
        (
          format,
          node_child format A n i e c.requires.tree.1 (inside g t here format)
              (item_is g t here format),
          omega (
            arith,
            c.requires.tree.2,
            child-fits A format n (items format A n) i e refl
                (inside g t here format) (item_is g t here format),
          ),
        ),
      ),
    )

pub rows_of_node-overflow_add-rows : goal.rows_of_node-overflow_add-rows
rows_of_node-overflow_add-rows g t c =
    let format = c.requires.tree.0 in
    let here = (goal.at.rows_of_node-overflow_add-rows g t c).After-entry-item in
    omega (
      arith,
      c.requires.tree.2,
      nodes_le format (tree_of format c.args.node.now)
          c.requires.tree.1,
      inside g t here format,
      rows_ahead g t here format,
      c.rows_of_child.ensures.rows format,
    )

pub rows_of_node-overflow_add-rows-in-loop-entry : goal.rows_of_node-overflow_add-rows-in-loop-entry
rows_of_node-overflow_add-rows-in-loop-entry g t c =
    let format = c.requires.tree.0 in
    let here = (goal.at.rows_of_node-overflow_add-rows-in-loop-entry g t c).After-entry-item in
    omega (
      arith,
      c.requires.tree.2,
      c.loop-entry.invariant format,
      nodes_le format
          (tree_of format c.args.node.now) c.requires.tree.1,
      inside g t here format,
      rows_ahead g t
          here format,
      c.rows_of_child.ensures.rows format,
    )

pub rows_of_node-loop-entry-preserved : goal.rows_of_node-loop-entry-preserved
rows_of_node-loop-entry-preserved g t c = λ format.
    let here = (goal.at.rows_of_node-loop-entry-preserved g t c).After-entry-item in
    omega (
      arith,
      c.loop-entry.invariant format,
      needed_more format g.row.B.Denot c.args.node.now
          c.loop-entry.entry-index c.entry-item.result (inside g t here format)
          (item_is g t here format),
      c.rows_of_child.ensures.rows format,
    )

-- ---- the tree after the entries

pub rows_of_node-rows_of_child-requires-2 : goal.rows_of_node-rows_of_child-requires-2
rows_of_node-rows_of_child-requires-2 g t c κs within =
    let format = c.requires.tree.0 in (
      search (rules, the_lemmas),
      (
        search rules,
        (
          format,
          node_last format g.row.B.Denot c.args.node.now c.requires.tree.1,
          omega (arith, c.requires.tree.2, tail-fits g.row.B.Denot format c.args.node.now),
        ),
      ),
    )

pub rows_of_node-overflow_add-result : goal.rows_of_node-overflow_add-result
rows_of_node-overflow_add-result g t c =
    let format = c.requires.tree.0 in
    let within : c.loop-entry.entry-index ≤ length (items format g.row.B.Denot c.args.node.now) =
    subst (λ xs. c.loop-entry.entry-index ≤ length xs) c.deref-entry-items.ensures.value
    c.loop-entry.auto.entry-index-end in
    omega (
      arith,
      c.requires.tree.2,
      c.loop-entry.invariant format,
      nodes_le format
          (tree_of format c.args.node.now) c.requires.tree.1,
      node_needed format g.row.B.Denot
          c.args.node.now,
      needed_take _ (tree_entry format)
          (items format g.row.B.Denot c.args.node.now) c.loop-entry.entry-index within,
      c.rows_of_child-2.ensures.rows format,
    )

pub rows_of_node-returns : goal.rows_of_node-returns
rows_of_node-returns g t c = record {
  rows = λ format.
      let whole = take_all format g.row.B.Denot c.args.node.now c.loop-entry.entry-index
      (omega (arith, ap length c.deref-entry-items.ensures.value)) in
      let counted = c.loop-entry.invariant format in
      omega (
        arith,
        rw whole at counted,
        node_needed format g.row.B.Denot c.args.node.now,
        c.rows_of_child-2.ensures.rows format,
      );
}
