use Rattle.mst_read.proofs.Names.{◌∙◌, ap, Some}
use Rattle.mst_read.proofs.Stops.{stops_there, part_found}
use Rattle.mst_read.proofs.ranges.part_from.Goals as goal

pub search-requires : goal.search-requires
search-requires g c = record { there = stops_there c.requires.lies.2 c.args.from.now }

pub returns-in-Gap-clause-part : goal.returns-in-Gap-clause-part
returns-in-Gap-clause-part g c f chain lies =
    part_found lies c.args.from.now (c.search.ensures.stop ∙ ap Some c.in-Gap.is)
    (λ i. (c.in-Gap.child, c.part_of.ensures i))

pub returns-in-Found-clause-part : goal.returns-in-Found-clause-part
returns-in-Found-clause-part g c f chain lies =
    part_found lies c.args.from.now (c.search.ensures.stop ∙ ap Some c.in-Found.is)
    (λ i. (0, c.part_of-in-Found.ensures i))

pub returns-in-End-clause-part : goal.returns-in-End-clause-part
returns-in-End-clause-part g c f chain lies =
    part_found lies c.args.from.now (c.search.ensures.stop ∙ ap Some c.in-End.is)
    (λ i. (c.args.head.now.tail, c.part_of-in-End.ensures i))
