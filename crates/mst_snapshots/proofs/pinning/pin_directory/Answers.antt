use Rattle.mst_snapshots.proofs.Names.{length, ◌∙◌, sym, ap, subst, Known, PinsNow}
use Rattle.mst_snapshots.proofs.pinning.pin_directory.Goals as goal

pub returns-clause-pin : goal.returns-clause-pin
returns-clause-pin g c =
    subst (λ (x : Known). PinsNow c.args.directory x) (sym c.lay.ensures.same)
    (subst (λ (x : Known). PinsNow x c.pin-pinned.result) c.lift.ensures.same
    (c.pin-pinned.ensures.looks, c.pin-pinned.ensures.once))

pub returns-clause-version : goal.returns-clause-version
returns-clause-version g c =
    c.version-version.ensures.version
    ∙ ap (λ (x : Known). length x.seen) (sym c.lay.ensures.same)
