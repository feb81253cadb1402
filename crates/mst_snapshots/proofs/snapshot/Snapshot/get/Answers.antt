use Rattle.mst_snapshots.proofs.Names.{◌≡◌, ◌≤◌, ℕ, List, length, vec_items, rules, refl, sym, ap, subst, arith, ◌∙◌, arc_value, map_get, Known, StoreId, Whole, whole, AreOf, place, map_of, pass_at, IsSnapshot}
use Rattle.mst_shards.proofs.Nexts.{routed_get, map_here}
use Rattle.mst_snapshots.proofs.Staying.{read_at, low_at_place, there_is, as_long}
use Rattle.mst_snapshots.proofs.snapshot.Snapshot.get.Goals as goal

pub get_at-requires-clause-there : goal.get_at-requires-clause-there
get_at-requires-clause-there g c =
    let are : c.splits.result.now ≡ (arc_value c.self.inside.map).splits = search rules in
    there_is (arc_value c.self.inside.map).splits (vec_items c.self.inside.pins)
    (vec_items c.self.inside.pins) c.place_of-place.result _ c.self.invariant.0.one.sharding_is refl
    c.self.inside.pins.ok.0
    (subst (λ (x : List (List ℕ)). c.place_of-place.result ≤ length x) are
    c.place_of-place.ensures.within)

pub get_at-requires-clause-own : goal.get_at-requires-clause-own
get_at-requires-clause-own g c =
    let are : c.stores.result.now ≡ (arc_value c.self.inside.map).stores = search rules in
    subst (λ (l : List StoreId). AreOf l (vec_items c.self.inside.pins)) (sym are)
    c.self.invariant.0.own

pub invariant_of-self : goal.invariant_of-self
invariant_of-self g c =
    let was = c.self.invariant in
    let same = as_long _ _ (vec_items c.self.inside.pins) (vec_items c.get_at.new.pins)
    c.self.inside.pins.ok.0 c.get_at.new.pins.ok.0 c.get_at.ensures.same in
    let room = was.2 in
    let versions = was.3 in
    let found = was.4 in (
      subst (λ (x : List Known). IsSnapshot (arc_value c.self.inside.map)
          (vec_items c.self.inside.checks.versions) c.self.inside.checks.number
          (whole (arc_value c.self.inside.map).splits x c.self.inside.directory))
          (sym c.get_at.ensures.same) was.0,
      was.1,
      omega (arith, same, room),
      omega (arith, same, versions),
      omega (arith, same, found),
    )

pub returns-clause-found : goal.returns-clause-found
returns-clause-found g c =
    let are : c.splits.result.now ≡ (arc_value c.self.inside.map).splits = search rules in
    let one = c.self.invariant.0.one in
    let splits : List (List ℕ) = (arc_value c.self.inside.map).splits in
    let ps : List Known = vec_items c.self.inside.pins in
    let i : ℕ = c.place_of-place.result in
    let low = low_at_place splits ps i one.sharding_is
    (subst (λ (x : List (List ℕ)). c.place_of-place.result ≤ length x) are
    c.place_of-place.ensures.within) in
    let here = read_at ps i low in
    c.get_at.ensures.found
    ∙ routed_get splits ps c.args.key.now i (pass_at ps i) one.sharding_is.splits_are.rising
    one.sharding_is.count
    (c.place_of-place.ensures.place
    ∙ ap (λ (x : List (List ℕ)). place x c.args.key.now) are) here
    (map_here ps i (pass_at ps i) low here one.maps)
    ∙ ap (λ (w : Whole). map_get (map_of w.sharding) c.args.key.now) c.self.view_is

pub returns-clause-same : goal.returns-clause-same
returns-clause-same g c =
    ap (λ (x : List Known). whole (arc_value c.self.inside.map).splits x c.self.inside.directory)
    c.get_at.ensures.same ∙ c.self.view_is
