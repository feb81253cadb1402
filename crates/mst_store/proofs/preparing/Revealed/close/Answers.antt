use Rattle.mst_store.proofs.Names.{Some, ◌∙◌}
use Rattle.mst_batching.proofs.Prepared.{closed_known}
use Rattle.mst_store.proofs.preparing.Revealed.close.Goals as goal

pub returns : goal.returns
returns g c =
    let i = c.self.inside in
    record {
      same = closed_known i.parameters.number i.seat c.close.new.seat c.close.ensures.same
          c.close.ensures.closed (Some i.turn.version) ∙ c.self.view_is;
    }
