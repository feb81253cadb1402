use Rattle.mst_snapshots.proofs.Names.{option_copied}
use Rattle.mst_shards.proofs.Spans.{cut_above}
use Rattle.mst_snapshots.proofs.bounds.next_within.Goals as goal

pub returns-clause-found : goal.returns-clause-found
returns-clause-found g c =
    cut_above c.args.pinned.now.seen (option_copied c.args.bound) (option_copied c.args.end)
    c.next.result c.below_end.result c.next.ensures.found c.below_end.ensures.cut
