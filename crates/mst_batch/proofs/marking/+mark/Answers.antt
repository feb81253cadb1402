use Rattle.mst_batch.proofs.Names.{◌≡◌, ◌<◌, length, get_or, ap, subst, arith, on_ok_weaker}
use Rattle.mst_batch.proofs.Marks.{adds_entry, adds_last}
use Rattle.mst_batch.proofs.marking.+mark.Goals as goal

pub mark_node-loop-entry-preserved : goal.mark_node-loop-entry-preserved
mark_node-loop-entry-preserved g t c =
    adds_entry g.row.B.Denot c.args.node.now c.loop-entry.entry-index c.entry-item.result
    (subst (λ xs. c.loop-entry.entry-index < length xs) c.deref-entry-items.ensures.value
    c.loop-entry-test.true)
    (subst (λ xs. c.entry-item.result ≡ get_or xs c.loop-entry.entry-index c.entry-item.result)
    c.deref-entry-items.ensures.value c.entry-item.is) c.args.marks.now.items
    c.loop-entry.marks.items c.mark.new.marks.items c.loop-entry.invariant
    c.in_ok-mark.ensures.marks

pub mark_node-returns : goal.mark_node-returns
mark_node-returns g t c = record {
  marks =
      on_ok_weaker c.mark-2.result
      (adds_last g.row.B.Denot c.args.node.now c.loop-entry.entry-index
      (omega (arith, ap length c.deref-entry-items.ensures.value)) c.args.marks.now.items
      c.loop-entry.marks.items c.mark-2.new.marks.items c.loop-entry.invariant)
      c.mark-2.ensures.marks;
}
