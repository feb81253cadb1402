use Rattle.mst_snapshots.proofs.Names.{◌+◌, ℕ, List, slice_get, vec_items, ap, sym, subst, refl, ◌∙◌, option_copied, Known, union_from, sharding, IsSharding, pass_at}
use Rattle.mst_shards.proofs.Steps.{next_some, next_none}
use Rattle.mst_snapshots.proofs.Staying.{read_at, low_at_place, there_is, own_still}
use Rattle.mst_snapshots.proofs.ranging.next_among.Goals as goal

pub next_within_at-requires-clause-there : goal.next_within_at-requires-clause-there
next_within_at-requires-clause-there g c =
    there_is c.args.splits.now (vec_items c.args.pins.now) (vec_items c.args.pins.now)
    c.first_place-place.result _ c.requires.sharding refl c.args.pins.now.ok.0
    c.first_place-place.ensures.within

pub returns-in-Some-clause-found : goal.returns-in-Some-clause-found
returns-in-Some-clause-found g c =
    let ps : List Known = vec_items c.args.pins.now in
    let i : ℕ = c.first_place-place.result in
    let low = low_at_place c.args.splits.now ps i c.requires.sharding
    c.first_place-place.ensures.within in
    next_some c.args.splits.now ps (option_copied c.args.bound) i (option_copied c.high_key.result)
    (pass_at ps i) c.next_within_at.result c.in-Some.pair c.requires.sharding c.requires.maps
    c.first_place-place.ensures.place c.first_place-place.ensures.within c.high_key.ensures.high
    (read_at ps i low) c.next_within_at.ensures.found c.in-Some.is

pub returns-in-None-clause-found : goal.returns-in-None-clause-found
returns-in-None-clause-found g c =
    let ps : List Known = vec_items c.args.pins.now in
    let i : ℕ = c.first_place-place.result in
    let low = low_at_place c.args.splits.now ps i c.requires.sharding
    c.first_place-place.ensures.within in
    next_none c.args.splits.now ps (option_copied c.args.bound) i (option_copied c.high_key.result)
    (pass_at ps i) c.next_within_at.result c.first_behind.result c.requires.sharding
    c.requires.maps c.first_place-place.ensures.place c.first_place-place.ensures.within
    c.high_key.ensures.high (read_at ps i low) c.next_within_at.ensures.found c.in-None.is
    (c.first_behind.ensures.found
    ∙ ap (λ (qs : List Known). slice_get (union_from (i + 1) c.args.splits.now qs) 0)
    c.next_within_at.ensures.same)

pub first_behind-requires-clause-sharding : goal.first_behind-requires-clause-sharding
first_behind-requires-clause-sharding g c =
    subst (λ (qs : List Known). IsSharding (sharding c.args.splits.now qs))
    (sym c.next_within_at.ensures.same) c.requires.sharding

pub first_behind-requires-clause-own : goal.first_behind-requires-clause-own
first_behind-requires-clause-own g c =
    own_still c.args.stores.now (vec_items c.args.pins.now)
    (vec_items c.next_within_at.new.pins) c.next_within_at.ensures.same c.requires.own
