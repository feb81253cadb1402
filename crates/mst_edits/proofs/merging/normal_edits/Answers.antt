use Rattle.std.proofs.lemmas.Result.{IfOk-weaker}
use Rattle.mst_key.specs.Map.{map_get}
use Rattle.mst_key.proofs.Batches.{batched_alike}
use Rattle.mst_edits.specs.Listed.{listed}
use Rattle.mst_edits.proofs.merging.normal_edits.Goals as goal

pub returns-clause-map : goal.returns-clause-map
returns-clause-map g c =
    IfOk-weaker c.sorted_edits.result _ _
    (λ all leaves m map. batched_alike m (listed all.items) c.args.edits.now map.ascending
    (λ q. leaves q (map_get m q)))
    c.sorted_edits.ensures.leaves
