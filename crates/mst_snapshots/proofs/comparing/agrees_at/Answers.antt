use Rattle.mst_snapshots.proofs.Names.{◌≡◌, ◌+◌, ◌<◌, true, false, Some, length, slice_get, subst, sym, arith, vec_items, vec_len, shard_at, KeepsTo, Agrees, Known}
use Rattle.mst_snapshots.proofs.Staying.{pin_back, lifted_at}
use Rattle.mst_snapshots.proofs.comparing.agrees_at.Goals as goal

pub returns-clause-yes : goal.returns-clause-yes
returns-clause-yes g c =
    subst (λ (p : Known). c.agrees-agrees_here.result ≡ true
    → Agrees c.args.format (shard_at c.args.splits.now c.args.place) p c.args.found.now)
    (lifted_at (vec_items c.args.pins.now) c.args.place (vec_len c.args.pins.now)
    c.lift_pin_at-pinned.result c.requires.there c.args.pins.now.ok.0
    c.lift_pin_at-pinned.ensures.pass) c.agrees-agrees_here.ensures.yes

pub returns-clause-no : goal.returns-clause-no
returns-clause-no g c =
    subst (λ (p : Known). c.agrees-agrees_here.result ≡ false
    → Agrees c.args.format (shard_at c.args.splits.now c.args.place) p c.args.found.now → ⊥)
    (lifted_at (vec_items c.args.pins.now) c.args.place (vec_len c.args.pins.now)
    c.lift_pin_at-pinned.result c.requires.there c.args.pins.now.ok.0
    c.lift_pin_at-pinned.ensures.pass) c.agrees-agrees_here.ensures.no

pub returns-clause-same : goal.returns-clause-same
returns-clause-same g c =
    pin_back (vec_items c.args.pins.now) (vec_items c.lift_pin_at-pinned.new.laid)
    (vec_items c.lay_pin_at.new.laid) c.args.place (vec_len c.args.pins.now)
    (vec_len c.lift_pin_at-pinned.new.laid) (vec_len c.lay_pin_at.new.laid)
    c.lift_pin_at-pinned.result c.agrees-agrees_here.new.pinned c.requires.there
    c.args.pins.now.ok.0
    c.lift_pin_at-pinned.ensures.pass c.lift_pin_at-pinned.ensures.left
    c.lift_pin_at-pinned.ensures.len c.lay_pin_at.ensures.len c.lay_pin_at.new.laid.ok.0
    c.lay_pin_at.ensures.back c.agrees-agrees_here.ensures.same

pub agrees-agrees_here-requires-clause-there : goal.agrees-agrees_here-requires-clause-there
agrees-agrees_here-requires-clause-there g c =
    let count : length (vec_items c.args.pins.now) ≡ length c.args.splits.now + 1 =
    c.requires.sharding.count in
    let there = c.requires.there in
    let long = c.args.pins.now.ok.0 in
    omega (arith, count, there, long)

pub agrees-agrees_here-requires-clause-clean : goal.agrees-agrees_here-requires-clause-clean
agrees-agrees_here-requires-clause-clean g c =
    let there = c.requires.there in
    let long = c.args.pins.now.ok.0 in
    let low : c.args.place < length (vec_items c.args.pins.now) = omega (arith, there, long) in
    subst (λ (p : Known). slice_get c.args.clean.now c.args.place ≡ Some (length p.seen)
    → KeepsTo (shard_at c.args.splits.now c.args.place) p)
    (sym (lifted_at (vec_items c.args.pins.now) c.args.place (vec_len c.args.pins.now)
    c.lift_pin_at-pinned.result c.requires.there c.args.pins.now.ok.0
    c.lift_pin_at-pinned.ensures.pass)) (c.requires.clean c.args.place low)
