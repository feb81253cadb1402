use Rattle.mst_snapshots.proofs.Names.{◌≡◌, List, ℕ, vec_items, rules, sym, ap, subst, arith, ◌∙◌, arc_value, option_copied, IfOk, map_range, Known, StoreId, Whole, whole, AreOf, sharding, IsSharding, map_of, IsSnapshot}
use Rattle.mst_snapshots.proofs.Staying.{as_long}
use Rattle.mst_snapshots.proofs.snapshot.Snapshot.range.Goals as goal

pub range_among-requires-clause-sharding : goal.range_among-requires-clause-sharding
range_among-requires-clause-sharding g c =
    let are : c.splits.result.now ≡ (arc_value c.self.inside.map).splits = search rules in
    subst (λ (x : List (List ℕ)). IsSharding (sharding x (vec_items c.self.inside.pins))) (sym are)
    c.self.invariant.0.one.sharding_is

pub range_among-requires-clause-maps : goal.range_among-requires-clause-maps
range_among-requires-clause-maps g c = c.self.invariant.0.one.maps

pub range_among-requires-clause-own : goal.range_among-requires-clause-own
range_among-requires-clause-own g c =
    let are : c.stores.result.now ≡ (arc_value c.self.inside.map).stores = search rules in
    subst (λ (l : List StoreId). AreOf l (vec_items c.self.inside.pins)) (sym are)
    c.self.invariant.0.own

pub invariant_of-self : goal.invariant_of-self
invariant_of-self g c =
    let was = c.self.invariant in
    let same = as_long _ _ (vec_items c.self.inside.pins) (vec_items c.range_among.new.pins)
    c.self.inside.pins.ok.0 c.range_among.new.pins.ok.0 c.range_among.ensures.same in
    let room = was.2 in
    let versions = was.3 in
    let found = was.4 in (
      subst (λ (x : List Known). IsSnapshot (arc_value c.self.inside.map)
          (vec_items c.self.inside.checks.versions) c.self.inside.checks.number
          (whole (arc_value c.self.inside.map).splits x c.self.inside.directory))
          (sym c.range_among.ensures.same) was.0,
      was.1,
      omega (arith, same, room),
      omega (arith, same, versions),
      omega (arith, same, found),
    )

pub returns-clause-found : goal.returns-clause-found
returns-clause-found g c =
    let are : c.splits.result.now ≡ (arc_value c.self.inside.map).splits = search rules in
    subst (λ (w : Whole). IfOk c.range_among.result (λ found. vec_items found
    ≡ map_range (map_of w.sharding) (option_copied c.args.from) (option_copied c.args.to)
    c.args.limit)) c.self.view_is
    (subst (λ (x : List (List ℕ)). IfOk c.range_among.result (λ found. vec_items found
    ≡ map_range (map_of (sharding x (vec_items c.self.inside.pins))) (option_copied c.args.from)
    (option_copied c.args.to) c.args.limit)) are
    c.range_among.ensures.found)

pub returns-clause-same : goal.returns-clause-same
returns-clause-same g c =
    ap (λ (x : List Known). whole (arc_value c.self.inside.map).splits x c.self.inside.directory)
    c.range_among.ensures.same ∙ c.self.view_is
