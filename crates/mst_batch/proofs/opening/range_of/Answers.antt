use Rattle.mst_batch.proofs.Names.{◌≡◌, List, ℕ, Less, subst, arith, key_cmp}
use Rattle.mst_batch.proofs.Ranges.{all_above, none_above}
use Rattle.mst_batch.proofs.opening.range_of.Goals as goal

pub returns-in-len1-up-clause-after : goal.returns-in-len1-up-clause-after
returns-in-len1-up-clause-after c =
    all_above c.args.edits.now c.first-item.result c.args.key.now c.requires.rising
    c.in-len1-up.len_at_least c.first-item.is
    (subst (λ (k : List ℕ). key_cmp c.args.key.now k ≡ Less) c.key.ensures.key
    (c.is_before.ensures.less c.if-is_before.true))

pub returns-in-empty-clause-after : goal.returns-in-empty-clause-after
returns-in-empty-clause-after c =
    none_above c.args.edits.now c.args.key.now (omega (arith, c.in-empty.len_below))
