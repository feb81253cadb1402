use Rattle.mst_snapshots.proofs.Names.{rules, ◌≡◌, Option, Some, None, ℕ, List, sym, subst, ◌∙◌, option_copied, after}
use Rattle.mst_snapshots.proofs.Clean.{AllBelowBound, none_from_on, some_from_on, none_unbound}
use Rattle.mst_snapshots.proofs.comparing.has_none_from.Goals as goal

pub returns-in_default-clause-yes : goal.returns-in_default-clause-yes
returns-in_default-clause-yes g c = λ all.
    let bound : None ≡ option_copied c.args.high = search rules in
    subst (λ (o : Option (List ℕ)). AllBelowBound o (after c.args.pinned.now.seen)) bound
    (none_unbound (after c.args.pinned.now.seen))

pub returns-in-None-clause-yes : goal.returns-in-None-clause-yes
returns-in-None-clause-yes g c = λ all.
    let bound : Some c.in-Some.key.now ≡ option_copied c.args.high = search rules in
    subst (λ (o : Option (List ℕ)). AllBelowBound o (after c.args.pinned.now.seen)) bound
    (none_from_on (after c.args.pinned.now.seen) c.in-Some.key.now
    (sym c.first_from.ensures.found ∙ c.in-None.is))

pub returns-in-Some-first_from-clause-no : goal.returns-in-Some-first_from-clause-no
returns-in-Some-first_from-clause-no g c = λ some all.
    let bound : Some c.in-Some.key.now ≡ option_copied c.args.high = search rules in
    some_from_on (after c.args.pinned.now.seen) c.in-Some.key.now _
    (sym c.first_from.ensures.found ∙ c.in-Some-first_from.is)
    (subst (λ (o : Option (List ℕ)). AllBelowBound o (after c.args.pinned.now.seen)) (sym bound)
    all)
