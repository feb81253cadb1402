use Rattle.mst_snapshots.proofs.Names.{◌≡◌, Option, ap, sym, subst, ◌∙◌, vec_items, IsSome, unwrap_or, IfOk, after, proof_text, format_seen, Known, no_pass}
use Rattle.mst_snapshots.proofs.directory_pin.DirectoryPin.prove.Goals as goal

pub lifted-pinned-requires-clause-there : goal.lifted-pinned-requires-clause-there
lifted-pinned-requires-clause-there g c =
    subst (λ (o : Option Known). IsSome o) (sym c.take.ensures.value) c.self.invariant

pub lifted-pinned-requires-clause-own : goal.lifted-pinned-requires-clause-own
lifted-pinned-requires-clause-own g c =
    ap (λ (o : Option Known). (unwrap_or o no_pass).store) c.take.ensures.value
    ∙ ap (λ (p : Known). p.store) c.self.view_is ∙ c.requires.own

pub returns-clause-found : goal.returns-clause-found
returns-clause-found g c =
    subst (λ (p : Known). IfOk c.prove-text.result (λ found. vec_items found
    ≡ proof_text (format_seen p) (after p.seen) c.args.key.now))
    (c.lifted-pinned.ensures.same
    ∙ ap (λ (o : Option Known). unwrap_or o no_pass) c.take.ensures.value ∙ c.self.view_is)
    c.prove-text.ensures.found

pub returns-clause-same : goal.returns-clause-same
returns-clause-same g c =
    c.lay.ensures.same ∙ c.prove-text.ensures.same ∙ c.lifted-pinned.ensures.same
    ∙ ap (λ (o : Option Known). unwrap_or o no_pass) c.take.ensures.value ∙ c.self.view_is
