use Rattle.mst_batch.proofs.Names.{◌∷◌, [], sym, ◌∙◌, ap, subst, arith, PlannedEntry, AreKnown, known_of}
use Rattle.mst_batch.proofs.KnownShapes.{known_both}
use Rattle.mst_batch.proofs.Updates.{updated_pair, same_pair}
use Rattle.mst_batch.proofs.updating.updated_entry.Goals as goal

pub returns-in-len1-up-clause-pair : goal.returns-in-len1-up-clause-pair
returns-in-len1-up-clause-pair g c m are of_key =
    updated_pair m c.args.own.now c.args.key c.args.value c.value_put-new.result c.requires.rising
    are of_key c.edit-item.result c.in-len1-up.len_at_least c.edit-item.is
    (λ is same. c.value_put-new.ensures.put m c.args.key is same)
    ∙ ap (λ (x : PlannedEntry). (x.key, x.value) ∷ []) (sym c.entry_of-in-len1-up.ensures.entry)

pub returns-in-empty-clause-pair : goal.returns-in-empty-clause-pair
returns-in-empty-clause-pair g c m are of_key =
    same_pair c.args.own.now (c.args.key, c.args.value) (omega (arith, c.in-empty.len_below))
    ∙ ap (λ (x : PlannedEntry). (x.key, x.value) ∷ []) (sym c.entry_of.ensures.entry)

pub returns-in-empty-clause-known : goal.returns-in-empty-clause-known
returns-in-empty-clause-known g c format whole is child =
    subst (AreKnown format whole) (sym c.entry_of.ensures.known)
    (known_both format whole (known_of c.args.child) _ child (is, tt))
