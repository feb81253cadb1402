use Rattle.mst_read.proofs.Names.{◌∙◌, refl, ap, Some, arith}
use Rattle.mst_read.proofs.Stops.{stops_there, place_found, link_some}
use Rattle.mst_read.proofs.lookup.seek.Goals as goal

pub search-requires : goal.search-requires
search-requires g c = record { there = stops_there c.requires.lies.2 c.args.key.now }

pub returns-in-Gap-clause-place : goal.returns-in-Gap-clause-place
returns-in-Gap-clause-place g c f chain lies =
    place_found lies c.args.key.now (c.search.ensures.stop ∙ ap Some c.in-Gap.is) refl

pub overflow_sub-result : goal.overflow_sub-result
overflow_sub-result g c =
    let some = link_some c.requires.lies.2 c.args.key.now c.search.ensures.stop c.in-Found.is in
    omega (arith, some)

pub returns-in-Found-clause-place : goal.returns-in-Found-clause-place
returns-in-Found-clause-place g c f chain lies =
    place_found lies c.args.key.now (c.search.ensures.stop ∙ ap Some c.in-Found.is) refl

pub returns-in-End-clause-place : goal.returns-in-End-clause-place
returns-in-End-clause-place g c f chain lies =
    place_found lies c.args.key.now (c.search.ensures.stop ∙ ap Some c.in-End.is) refl
