use Rattle.mst_store.proofs.Names.{List, ap, ◌∙◌, Edit, known, Waiting}
use Rattle.mst_store.specs.Preparing.{published}
use Rattle.mst_store.proofs.preparing.Prepared.reveal.Goals as goal

pub returns : goal.returns
returns g c =
    let i = c.self.inside in
    record {
      published = c.reveal-turn.ensures.published i.made
          ∙ ap (λ (es : List Edit). published es (known i.parameters.number i.made i.seat))
          c.as_slice.ensures.value
          ∙ ap (λ (w : Waiting). published w.edits w.known) c.self.view_is;
    }
