use Rattle.mst_snapshots.proofs.Names.{option_copied}
use Rattle.mst_shards.proofs.Spans.{cut_from}
use Rattle.mst_snapshots.proofs.bounds.first_within.Goals as goal

pub returns-clause-found : goal.returns-clause-found
returns-clause-found g c =
    cut_from c.args.pinned.now.seen c.args.low.now (option_copied c.args.end)
    c.first_from.result c.below_end.result c.first_from.ensures.found c.below_end.ensures.cut
