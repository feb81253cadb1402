use Rattle.mst_batch.proofs.Names.{sym, ◌∙◌, ap, subst, Content, Stands}
use Rattle.mst_read.specs.Search.{MapStands}
use Rattle.mst_batch.proofs.Updates.{updates_step, updates_end}
use Rattle.mst_batch.proofs.updating.are_updates.Goals as goal

pub is_update-requires : goal.is_update-requires
is_update-requires g c = record {
  stands = subst (λ (x : Content). MapStands x c.args.root.now)
      (sym (ap g.R.Rows.content c.loop-edit.invariant.same)) c.requires.stands;
}

pub loop-edit-preserved : goal.loop-edit-preserved
loop-edit-preserved g c = record {
  same = c.is_update.ensures.same ∙ c.loop-edit.invariant.same;
  left = λ f m stands more.
      c.loop-edit.invariant.left f m stands
      (updates_step m c.args.edits.now c.loop-edit.edit-index c.edit-item.result
      c.loop-edit-test.true c.edit-item.is
      (c.is_update.ensures.update c.if-not-is_update.false f m
      (subst (λ (x : Content). Stands f x c.args.root.now m)
      (sym (ap g.R.Rows.content c.loop-edit.invariant.same)) stands)) more);
}

pub returns : goal.returns
returns g c = record {
  updates = λ yes f m stands.
      c.loop-edit.invariant.left f m stands
      (updates_end m c.args.edits.now c.loop-edit.edit-index c.loop-edit-test.false);
  same = c.loop-edit.invariant.same;
}
