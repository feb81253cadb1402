use Rattle.mst_snapshots.proofs.Names.{◌≡◌, ◌+◌, length, vec_items, rules, sym, ap, subst, arith, ◌∙◌, arc_value, whole, Shards, Dealt, IsLot, IsSplits, as_many, IsReader}
use Rattle.mst_snapshots.proofs.Routed.{new_reader}
use Rattle.mst_snapshots.proofs.reader.Reader.new.Goals as goal

pub invariant_of-result : goal.invariant_of-result
invariant_of-result g c =
    let s : Shards = arc_value c.args.map.now in
    let is : arc_value c.in_ok-share.share ≡ arc_value c.args.map.now = search rules in
    let deref : c.deref.result.now ≡ arc_value c.args.map.now = search rules in
    let splits : c.shards-shards.result ≡ length (arc_value c.args.map.now).splits + 1 =
    c.shards-shards.ensures.splits ∙ ap (λ (x : Shards). length x.splits + 1) deref in
    let stores : c.shards-shards.result ≡ length (arc_value c.args.map.now).stores =
    c.shards-shards.ensures.stores ∙ ap (λ (x : Shards). length x.stores) deref in
    let are : IsSplits (arc_value c.args.map.now).splits =
    subst (λ (x : Shards). IsSplits x.splits) deref c.shards-shards.ensures.is in
    let lot : IsLot s (record {
      passes = vec_items c.lot.inside.passes;
      directory = c.lot.inside.directory;
    }) = subst (λ (d : Dealt). IsLot s d) (sym c.lot.view_is) c.requires.own in
    let many = as_many s.stores (vec_items c.lot.inside.passes) lot.own in
    let long = c.lot.inside.passes.ok.0 in
    let room = c.in_ok-room.ensures.room in
    let versions = c.in_ok-versions.ensures.room in
    let found = c.in_ok-found.ensures.room in (
      subst (λ (x : Shards). IsReader x (vec_items c.in_ok-versions.versions) 0
          (whole x.splits (vec_items c.lot.inside.passes) c.lot.inside.directory)) (sym is)
          (new_reader s _ (vec_items c.in_ok-versions.versions) c.shards-shards.result are splits
          stores lot c.in_ok-versions.ensures.empty),
      c.in_ok-room.ensures.empty,
      omega (arith, stores, many, long, room),
      omega (arith, stores, many, long, versions),
      omega (arith, stores, many, long, found),
    )
