use Rattle.mst_snapshots.proofs.Names.{List, ℕ, vec_items, rules, sym, subst, ◌∙◌, Known, StoreId, whole, IsOneBlock, AreOf, sharding, IsSharding, AreClean}
use Rattle.mst_snapshots.proofs.Kept.{seen_again, reader_clean}
use Rattle.mst_snapshots.proofs.trying.is_one_block.Goals as goal

pub returns-then-is_last-clause-yes : goal.returns-then-is_last-clause-yes
returns-then-is_last-clause-yes g c = λ is.
    seen_again c.args.map.now (vec_items c.args.checks.now.versions)
    (vec_items c.args.checks.now.found) c.args.checks.now.number c.args.number
    (whole c.args.map.now.splits (vec_items c.args.pins.now) c.args.directory) c.requires.reader
    c.requires.versions (c.is_last.ensures.number (search rules))
    (sym c.as_slice.ensures.value ∙ c.is_last.ensures.versions (search rules)
    ∙ c.as_slice-clean.ensures.value)

pub lift_pinned-listing-requires : goal.lift_pinned-listing-requires
lift_pinned-listing-requires g c = record {
  own = c.requires.reader.directory ∙ sym c.directory.ensures.store;
}

pub lists_all-one-requires-clause-sharding : goal.lists_all-one-requires-clause-sharding
lists_all-one-requires-clause-sharding g c =
    subst (λ (l : List (List ℕ)). IsSharding (sharding l (vec_items c.args.pins.now)))
    (sym c.splits.ensures.splits) c.requires.reader.sharding_is

pub lists_all-one-requires-clause-own : goal.lists_all-one-requires-clause-own
lists_all-one-requires-clause-own g c =
    subst (λ (l : List StoreId). AreOf l (vec_items c.args.pins.now)) (sym c.stores.ensures.stores)
    c.requires.reader.own

pub lists_all-one-requires-clause-clean : goal.lists_all-one-requires-clause-clean
lists_all-one-requires-clause-clean g c =
    subst (λ (l : List (List ℕ)). AreClean l c.as_slice-clean.result.now
    (vec_items c.args.pins.now)) (sym c.splits.ensures.splits)
    (subst (λ (vs : List ℕ). AreClean c.args.map.now.splits vs (vec_items c.args.pins.now))
    (sym c.as_slice-clean.ensures.value)
    (reader_clean c.args.map.now (vec_items c.args.checks.now.versions) c.args.checks.now.number
    (whole c.args.map.now.splits (vec_items c.args.pins.now) c.args.directory)
    c.requires.reader))

pub returns-clause-yes : goal.returns-clause-yes
returns-clause-yes g c = λ is.
    subst (λ (l : List (List ℕ)). IsOneBlock (whole l (vec_items c.args.pins.now)
    c.args.directory)) c.splits.ensures.splits
    (subst (λ (d : Known). IsOneBlock (whole c.splits.result.now (vec_items c.args.pins.now) d))
    c.lift_pinned-listing.ensures.same (c.lists_all-one.ensures.yes is))

pub returns-clause-no : goal.returns-clause-no
returns-clause-no g c = λ is.
    subst (λ (l : List (List ℕ)). IsOneBlock (whole l (vec_items c.args.pins.now)
    c.args.directory) → ⊥) c.splits.ensures.splits
    (subst (λ (d : Known). IsOneBlock (whole c.splits.result.now (vec_items c.args.pins.now) d)
    → ⊥) c.lift_pinned-listing.ensures.same (c.lists_all-one.ensures.no is))

pub returns-clause-same : goal.returns-clause-same
returns-clause-same g c =
    c.lay.ensures.same ∙ c.lists_all-one.ensures.still ∙ c.lift_pinned-listing.ensures.same
