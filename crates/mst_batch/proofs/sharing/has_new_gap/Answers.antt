use Rattle.mst_batch.proofs.Names.{◌≡◌, ◌<◌, length, get_or, subst}
use Rattle.mst_batch.proofs.NodeChoices.{new_gap, new_tail}
use Rattle.mst_batch.proofs.sharing.has_new_gap.Goals as goal

pub returns-then-is_made : goal.returns-then-is_made
returns-then-is_made g c = record {
  new = λ yes.
      new_gap c.args.node.now c.loop-entry.entry-index c.entry-item.result
      (subst (λ xs. c.loop-entry.entry-index < length xs) c.deref-entry-items.ensures.value
      c.loop-entry-test.true)
      (subst (λ xs. c.entry-item.result ≡ get_or xs c.loop-entry.entry-index c.entry-item.result)
      c.deref-entry-items.ensures.value c.entry-item.is)
      (c.is_made.ensures.made c.if-is_made.true);
}

pub returns : goal.returns
returns g c = record { new = λ yes. new_tail c.args.node.now (c.is_made-2.ensures.made yes) }
