use Rattle.mst_batch.proofs.Names.{◌≡◌, ℕ, ◌+◌, ◌-◌, ◌<◌, length, get_or, map, ap, subst, arith, rules, ◌^◌, min, planned_entry}
use Rattle.mst_batch.proofs.PlanShapes.{items, list_rows, rows_more, node_rows, take_all}
use Rattle.mst_batch.proofs.PlanSizes.{child_smaller, tail_smaller}
use Rattle.mst_batch.proofs.sowing.+count.Given.{Over}
use Rattle.mst_batch.proofs.sowing.+count.Goals.{rows_of_node-After-entry-item, rows_of_node-After-loop-entry}
use Rattle.mst_batch.proofs.sowing.+count.Goals as goal

module _ (g : Over) (t : ℕ) (c : goal.rows_of_node-After-entry-item g t) where
  inside : c.loop-entry.entry-index < length (items g.row.B.Denot c.args.node.now)
  inside = subst (λ xs. c.loop-entry.entry-index < length xs) c.deref-entry-items.ensures.value
      c.loop-entry-test.true

  item_is : c.entry-item.result ≡ get_or (items g.row.B.Denot c.args.node.now)
      c.loop-entry.entry-index c.entry-item.result
  item_is =
      subst (λ xs. c.entry-item.result ≡ get_or xs c.loop-entry.entry-index c.entry-item.result)
      c.deref-entry-items.ensures.value c.entry-item.is

pub rows_of_node-rows_of-requires : goal.rows_of_node-rows_of-requires
rows_of_node-rows_of-requires g t c κs within =
    let here = (goal.at.rows_of_node-rows_of-requires g t c).After-entry-item in (
      omega (
        arith,
        c.decreases,
        child_smaller g.row.B.Denot c.args.node.now c.loop-entry.entry-index
            c.entry-item.result (inside g t here) (item_is g t here),
      ),
      search rules,
    )

pub rows_of_node-loop-entry-preserved : goal.rows_of_node-loop-entry-preserved
rows_of_node-loop-entry-preserved g t c =
    let here = (goal.at.rows_of_node-loop-entry-preserved g t c).After-entry-item in
    omega (
      arith,
      c.loop-entry.invariant,
      rows_more g.row.B.Denot c.args.node.now c.loop-entry.entry-index
          c.entry-item.result (inside g t here) (item_is g t here),
      c.rows_of.ensures.rows,
    )

-- ---- the plan after the entries

module _ (g : Over) (t : ℕ) (c : goal.rows_of_node-After-loop-entry g t) where
  counted : c.loop-entry.rows ≡ min (1 + list_rows
      (map planned_entry (items g.row.B.Denot c.args.node.now))) (2 ^ 32 - 1)
  counted =
      let whole = take_all g.row.B.Denot c.args.node.now c.loop-entry.entry-index
      (omega (arith, ap length c.deref-entry-items.ensures.value)) in
      let so_far = c.loop-entry.invariant in rw whole at so_far

pub rows_of_node-rows_of-requires-2 : goal.rows_of_node-rows_of-requires-2
rows_of_node-rows_of-requires-2 g t c κs within =
    (omega (arith, c.decreases, tail_smaller g.row.B.Denot c.args.node.now), search rules)

pub rows_of_node-returns : goal.rows_of_node-returns
rows_of_node-returns g t c = record {
  rows =
      let here = (goal.at.rows_of_node-returns g t c).After-loop-entry in
      omega (
        arith,
        counted g t here,
        node_rows g.row.B.Denot c.args.node.now,
        c.rows_of-2.ensures.rows,
      );
}
