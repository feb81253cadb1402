use Rattle.mst_shards.proofs.Names.{vec_items, rules, arith}
use Rattle.mst_shards.proofs.Owned.{as_many, own_at}
use Rattle.mst_shards.proofs.moving.lift_pin_at.Goals as goal

pub bounds-stores-place : goal.bounds-stores-place
bounds-stores-place g c =
    let many = as_many c.args.stores.now (vec_items c.args.laid.now) c.requires.own in
    let there = c.requires.there in
    let count = c.args.laid.now.ok.0 in
    omega (arith, many, there, count)

pub offset_bounds-stores-place : goal.offset_bounds-stores-place
offset_bounds-stores-place g c =
    let many = as_many c.args.stores.now (vec_items c.args.laid.now) c.requires.own in
    let there = c.requires.there in
    let count = c.args.laid.now.ok.0 in
    omega (arith, many, there, count)

pub lift_pinned-requires : goal.lift_pinned-requires
lift_pinned-requires g c =
    let there = c.requires.there in
    let count = c.args.laid.now.ok.0 in
    record {
      own = own_at c.args.stores.now (vec_items c.args.laid.now) c.args.place
          c.swap_remove-pinned.result c.index-stores-place.result c.requires.own
          (omega (arith, there, count)) (search rules) c.index-stores-place.is;
    }
