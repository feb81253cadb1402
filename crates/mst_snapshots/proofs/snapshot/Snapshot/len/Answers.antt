use Rattle.mst_snapshots.proofs.Names.{◌≡◌, ◌+◌, List, length, vec_items, rules, sym, ap, subst, arith, ◌∙◌, arc_value, Known, StoreId, Whole, whole, AreOf, map_of, IsSnapshot}
use Rattle.mst_snapshots.proofs.Lengths.{pairs_shown}
use Rattle.mst_snapshots.proofs.Staying.{as_long}
use Rattle.mst_snapshots.proofs.snapshot.Snapshot.len.Goals as goal

pub len_among-requires-clause-own : goal.len_among-requires-clause-own
len_among-requires-clause-own g c =
    let are : c.stores.result.now ≡ (arc_value c.self.inside.map).stores = search rules in
    subst (λ (l : List StoreId). AreOf l (vec_items c.self.inside.pins)) (sym are)
    c.self.invariant.0.own

pub len_among-requires-clause-few : goal.len_among-requires-clause-few
len_among-requires-clause-few g c = c.self.invariant.0.one.few

pub len_among-requires-clause-most : goal.len_among-requires-clause-most
len_among-requires-clause-most g c =
    let one = c.self.invariant.0.one in
    let few = one.sharding_is.splits_are.few in
    let count : length (vec_items c.self.inside.pins)
    ≡ length (arc_value c.self.inside.map).splits + 1 = one.sharding_is.count in
    let long = c.self.inside.pins.ok.0 in
    omega (arith, few, count, long)

pub invariant_of-self : goal.invariant_of-self
invariant_of-self g c =
    let was = c.self.invariant in
    let same = as_long _ _ (vec_items c.self.inside.pins) (vec_items c.len_among.new.pins)
    c.self.inside.pins.ok.0 c.len_among.new.pins.ok.0 c.len_among.ensures.same in
    let room = was.2 in
    let versions = was.3 in
    let found = was.4 in (
      subst (λ (x : List Known). IsSnapshot (arc_value c.self.inside.map)
          (vec_items c.self.inside.checks.versions) c.self.inside.checks.number
          (whole (arc_value c.self.inside.map).splits x c.self.inside.directory))
          (sym c.len_among.ensures.same) was.0,
      was.1,
      omega (arith, same, room),
      omega (arith, same, versions),
      omega (arith, same, found),
    )

pub returns-clause-found : goal.returns-clause-found
returns-clause-found g c =
    subst (λ (w : Whole). c.len_among.result ≡ length (map_of w.sharding)) c.self.view_is
    (c.len_among.ensures.sum
    ∙ pairs_shown (whole (arc_value c.self.inside.map).splits (vec_items c.self.inside.pins)
    c.self.inside.directory) c.self.invariant.0.one)

pub returns-clause-same : goal.returns-clause-same
returns-clause-same g c =
    ap (λ (x : List Known). whole (arc_value c.self.inside.map).splits x c.self.inside.directory)
    c.len_among.ensures.same ∙ c.self.view_is
