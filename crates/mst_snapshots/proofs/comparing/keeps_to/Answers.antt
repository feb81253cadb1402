use Rattle.mst_snapshots.proofs.Names.{subst, sym, option_copied, after, Known}
use Rattle.mst_snapshots.proofs.Clean.{AllBelowBound, keeps_yes, keeps_not_low, keeps_not_high}
use Rattle.mst_snapshots.proofs.comparing.keeps_to.Goals as goal

pub returns-then-above-clause-yes : goal.returns-then-above-clause-yes
returns-then-above-clause-yes g c = λ under.
    keeps_yes (after c.args.pinned.now.seen) c.args.splits.now c.args.place c.low_key-low.result
    (option_copied c.high_key.result) c.low_key-low.ensures.low c.high_key.ensures.high
    (c.has_none_below-above.ensures.yes c.if-above.true)
    (subst (λ (p : Known). AllBelowBound (option_copied c.high_key.result) (after p.seen))
    c.has_none_below-above.ensures.same (c.has_none_from-under.ensures.yes under))

pub returns-then-above-clause-no : goal.returns-then-above-clause-no
returns-then-above-clause-no g c = λ some.
    keeps_not_high (after c.args.pinned.now.seen) c.args.splits.now c.args.place
    (option_copied c.high_key.result) c.high_key.ensures.high
    (λ all. c.has_none_from-under.ensures.no some
    (subst (λ (p : Known). AllBelowBound (option_copied c.high_key.result) (after p.seen))
    (sym c.has_none_below-above.ensures.same) all))

pub returns-else-above-clause-no : goal.returns-else-above-clause-no
returns-else-above-clause-no g c = λ some.
    keeps_not_low (after c.args.pinned.now.seen) c.args.splits.now c.args.place
    c.low_key-low.result c.low_key-low.ensures.low
    (c.has_none_below-above.ensures.no c.if-above.false)
