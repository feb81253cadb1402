use Rattle.mst_shards.proofs.Names.{◌≡◌, sym, ap, ◌∙◌, StoreId, new_passes}
use Rattle.std.proofs.lemmas.List.{get_or_default}
use Rattle.mst_shards.proofs.deal.deal_at.Goals as goal

pub deal-requires : goal.deal-requires
deal-requires g c = record {
  own = c.requires.own
      ∙ get_or_default c.args.stores.now c.args.place c.args.seats c.index-stores-place.result
      c.requires.there ∙ sym c.index-stores-place.is;
}

pub returns-in-Ok-clause-ok : goal.returns-in-Ok-clause-ok
returns-in-Ok-clause-ok g c =
    let same : c.index-stores-place.result ≡ c.args.seats = c.index-stores-place.is
    ∙ get_or_default c.args.stores.now c.args.place c.index-stores-place.result c.args.seats
    c.requires.there ∙ sym c.requires.own in
    c.in-Ok.ensures.ok ∙ ap new_passes same

pub returns-in-Ok-clause-count : goal.returns-in-Ok-clause-count
returns-in-Ok-clause-count g c =
    let same : c.index-stores-place.result ≡ c.args.seats = c.index-stores-place.is
    ∙ get_or_default c.args.stores.now c.args.place c.index-stores-place.result c.args.seats
    c.requires.there ∙ sym c.requires.own in
    c.in-Ok.passes.ok.0 ∙ c.in-Ok.ensures.count ∙ ap (λ (s : StoreId). s.passes) same
