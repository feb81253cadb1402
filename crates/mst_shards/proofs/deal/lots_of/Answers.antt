use Rattle.mst_shards.proofs.Names.{◌≡◌, ◌∙◌, [], List, map, ap, Known, first_lots}
use Rattle.std.proofs.lemmas.Result.{IfOk-weaker}
use Rattle.mst_shards.proofs.Dealing.{lot_with, lots_begin}
use Rattle.mst_shards.proofs.deal.lots_of.Goals as goal

pub returns-in-Ok : goal.returns-in-Ok
returns-in-Ok g c = record {
  lots = IfOk-weaker c.lots_with.result
      (λ lots. lots.items ≡ map lot_with c.in-Ok.passes.items)
      (λ lots. lots.items ≡ first_lots [] c.args.directory.now c.args.directory.now.passes)
      (λ lots are. are
      ∙ ap (λ (l : List Known). map lot_with l) c.in-Ok.ensures.ok
      ∙ lots_begin c.args.directory.now c.args.directory.now.passes) c.lots_with.ensures.lots;
}
