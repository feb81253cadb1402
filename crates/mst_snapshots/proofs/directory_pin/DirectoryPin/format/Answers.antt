use Rattle.mst_snapshots.proofs.Names.{◌≡◌, Option, ap, sym, subst, ◌∙◌, IsSome, unwrap_or, format_seen, Known, no_pass}
use Rattle.mst_snapshots.proofs.directory_pin.DirectoryPin.format.Goals as goal

pub lifted-pinned-requires-clause-there : goal.lifted-pinned-requires-clause-there
lifted-pinned-requires-clause-there g c =
    subst (λ (o : Option Known). IsSome o) (sym c.take.ensures.value) c.self.invariant

pub lifted-pinned-requires-clause-own : goal.lifted-pinned-requires-clause-own
lifted-pinned-requires-clause-own g c =
    ap (λ (o : Option Known). (unwrap_or o no_pass).store) c.take.ensures.value
    ∙ ap (λ (p : Known). p.store) c.self.view_is ∙ c.requires.own

pub returns-clause-found : goal.returns-clause-found
returns-clause-found g c =
    subst (λ (p : Known). c.format-format.result ≡ format_seen p)
    (c.lifted-pinned.ensures.same
    ∙ ap (λ (o : Option Known). unwrap_or o no_pass) c.take.ensures.value ∙ c.self.view_is)
    c.format-format.ensures.found

pub returns-clause-same : goal.returns-clause-same
returns-clause-same g c =
    c.lay.ensures.same ∙ c.format-format.ensures.same ∙ c.lifted-pinned.ensures.same
    ∙ ap (λ (o : Option Known). unwrap_or o no_pass) c.take.ensures.value ∙ c.self.view_is
