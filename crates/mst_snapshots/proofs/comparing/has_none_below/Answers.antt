use Rattle.mst_snapshots.proofs.Names.{sym, ◌∙◌, after, IsAscending-after}
use Rattle.mst_shards.proofs.Unions.{not_false}
use Rattle.mst_snapshots.proofs.Clean.{none_first, first_from_on, first_below, not_true}
use Rattle.mst_snapshots.proofs.comparing.has_none_below.Goals as goal

pub returns-in-None-clause-yes : goal.returns-in-None-clause-yes
returns-in-None-clause-yes g c = λ all.
    none_first (after c.args.pinned.now.seen) c.args.low.now
    (sym c.next.ensures.found ∙ c.in-None.is)

pub returns-in-Some-clause-yes : goal.returns-in-Some-clause-yes
returns-in-Some-clause-yes g c = λ all.
    first_from_on (after c.args.pinned.now.seen) c.args.low.now c.in-Some.first c.in-Some._value
    (IsAscending-after c.args.pinned.now.seen) (sym c.next.ensures.found ∙ c.in-Some.is)
    (sym c.is_below.ensures.below ∙ not_false c.is_below.result all)

pub returns-in-Some-clause-no : goal.returns-in-Some-clause-no
returns-in-Some-clause-no g c = λ some.
    first_below (after c.args.pinned.now.seen) c.args.low.now c.in-Some.first c.in-Some._value
    (sym c.next.ensures.found ∙ c.in-Some.is)
    (sym c.is_below.ensures.below ∙ not_true c.is_below.result some)
