use Rattle.mst_batch.proofs.Names.{refl}
use Rattle.mst_batch.proofs.Openings.{adds_put}
use Rattle.mst_batch.proofs.opening.push_put.Goals as goal

pub returns-in_ok-push : goal.returns-in_ok-push
returns-in_ok-push g c = record {
  adds = λ format whole own.
      adds_put format whole c.args.items.now.items c.push.new.self.items c.args.edit.now
      c.in-Put.key c.in-Put.value _ _ c.args.layer c.changed.result c.in-Put.is refl refl
      c.in_ok-push.ensures.items (c.changed.ensures.known format whole _) own;
}
