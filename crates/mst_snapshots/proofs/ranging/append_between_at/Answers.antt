use Rattle.mst_snapshots.proofs.Names.{◌≡◌, subst, vec_items, vec_len, ◌++◌, ◌-◌, length, option_copied, after, map_range, Known}
use Rattle.std.specs.Prelude.{OnOk}
use Rattle.mst_snapshots.proofs.Staying.{pin_back, lifted_at}
use Rattle.mst_snapshots.proofs.ranging.append_between_at.Goals as goal

pub returns-clause-appended : goal.returns-clause-appended
returns-clause-appended g c =
    subst (λ (p : Known). OnOk c.append_between-appended.result
    (vec_items c.append_between-appended.new.found ≡ vec_items c.args.found.now
    ++ map_range (after p.seen) (option_copied c.args.from) (option_copied c.args.to)
    (c.args.limit - length (vec_items c.args.found.now))))
    (lifted_at (vec_items c.args.pins.now) c.args.place (vec_len c.args.pins.now)
    c.lift_pin_at-pinned.result c.requires.there c.args.pins.now.ok.0
    c.lift_pin_at-pinned.ensures.pass) c.append_between-appended.ensures.appended

pub returns-clause-same : goal.returns-clause-same
returns-clause-same g c =
    pin_back (vec_items c.args.pins.now) (vec_items c.lift_pin_at-pinned.new.laid)
    (vec_items c.lay_pin_at.new.laid) c.args.place (vec_len c.args.pins.now)
    (vec_len c.lift_pin_at-pinned.new.laid) (vec_len c.lay_pin_at.new.laid)
    c.lift_pin_at-pinned.result c.append_between-appended.new.pinned c.requires.there
    c.args.pins.now.ok.0
    c.lift_pin_at-pinned.ensures.pass c.lift_pin_at-pinned.ensures.left
    c.lift_pin_at-pinned.ensures.len c.lay_pin_at.ensures.len c.lay_pin_at.new.laid.ok.0
    c.lay_pin_at.ensures.back c.append_between-appended.ensures.same
