use Rattle.mst_snapshots.proofs.Names.{◌≡◌, length, subst, vec_items, vec_len, after, Known}
use Rattle.mst_snapshots.proofs.Staying.{pin_back, lifted_at}
use Rattle.mst_snapshots.proofs.counting.len_at.Goals as goal

pub returns-clause-found : goal.returns-clause-found
returns-clause-found g c =
    subst (λ (p : Known). c.len-len.result ≡ length (after p.seen))
    (lifted_at (vec_items c.args.pins.now) c.args.place (vec_len c.args.pins.now)
    c.lift_pin_at-pinned.result c.requires.there c.args.pins.now.ok.0
    c.lift_pin_at-pinned.ensures.pass) c.len-len.ensures.found

pub returns-clause-same : goal.returns-clause-same
returns-clause-same g c =
    pin_back (vec_items c.args.pins.now) (vec_items c.lift_pin_at-pinned.new.laid)
    (vec_items c.lay_pin_at.new.laid) c.args.place (vec_len c.args.pins.now)
    (vec_len c.lift_pin_at-pinned.new.laid) (vec_len c.lay_pin_at.new.laid)
    c.lift_pin_at-pinned.result c.len-len.new.self c.requires.there c.args.pins.now.ok.0
    c.lift_pin_at-pinned.ensures.pass c.lift_pin_at-pinned.ensures.left
    c.lift_pin_at-pinned.ensures.len c.lay_pin_at.ensures.len c.lay_pin_at.new.laid.ok.0
    c.lay_pin_at.ensures.back c.len-len.ensures.same
