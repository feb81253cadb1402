use Rattle.mst_batch.proofs.Names.{◌≡◌, ◌<◌, ◌+◌, length, get_or, sym, ap, subst, arith}
use Rattle.mst_batch.proofs.LastLinks.{IsKeptSoFar, one_more, at_end}
use Rattle.mst_batch.proofs.marking.+last.Goals as goal

pub last_link_below-loop-entry-init : goal.last_link_below-loop-entry-init
last_link_below-loop-entry-init g t c = λ some. omega (arith, c.last_link-last.ensures.kept some)

pub last_link_below-loop-entry-preserved : goal.last_link_below-loop-entry-preserved
last_link_below-loop-entry-preserved g t c =
    subst (IsKeptSoFar g.row.B.Denot c.args.node.now (c.loop-entry.entry-index + 1))
    (sym c.max-last.ensures)
    (one_more g.row.B.Denot c.args.node.now c.loop-entry.entry-index c.entry-item.result
    (subst (λ xs. c.loop-entry.entry-index < length xs) c.deref-entry-items.ensures.value
    c.loop-entry-test.true)
    (subst (λ xs. c.entry-item.result ≡ get_or xs c.loop-entry.entry-index c.entry-item.result)
    c.deref-entry-items.ensures.value c.entry-item.is) c.loop-entry.last c.last_link.result
    c.loop-entry.invariant c.last_link.ensures.kept)

pub last_link_below-returns : goal.last_link_below-returns
last_link_below-returns g t c = record {
  kept = at_end g.row.B.Denot c.args.node.now c.loop-entry.entry-index
      (omega (arith, ap length c.deref-entry-items.ensures.value)) c.loop-entry.last
      c.loop-entry.invariant;
}
