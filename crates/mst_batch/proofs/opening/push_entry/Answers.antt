use Rattle.mst_batch.proofs.Names.{on_ok_weaker}
use Rattle.mst_batch.proofs.Openings.{adds_own, adds_entry}
use Rattle.mst_batch.proofs.opening.push_entry.Goals as goal

pub returns-in-len1-up : goal.returns-in-len1-up
returns-in-len1-up g c = record {
  adds = on_ok_weaker c.push_put.result
      (λ put format whole pair layer of told found.
      adds_own format whole c.args.items.now.items c.push_put.new.items.items pair.0 pair.1
      c.args.layer c.args.own.now c.requires.rising of layer c.edit-item.result
      c.in-len1-up.len_at_least c.edit-item.is (put format whole))
      c.push_put.ensures.adds;
}

pub returns : goal.returns
returns g c = record {
  adds = λ format whole pair layer of told found.
      adds_entry format whole c.args.items.now.items c.push.new.self.items pair.0 pair.1
      c.args.layer c.args.own.now c.requires.rising of layer c.args.row c.in_default.len_below
      c.in_ok-push.ensures.items told found;
}
