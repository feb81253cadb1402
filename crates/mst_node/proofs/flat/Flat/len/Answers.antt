use Rattle.mst_node.proofs.Names.{ap, FlatNode}
use Rattle.mst_node.proofs.EntryPlaces.{seen-count}
use Rattle.mst_node.proofs.flat.Flat.len.Goals as goal

pub returns : goal.returns
returns c =
    record {
      len = seen-count c.self.inside.format c.self.inside.count c.self.inside.body.now
          c.args.self.now.entries c.self.invariant
          (ap (λ (n : FlatNode). n.entries) c.self.view_is);
    }
