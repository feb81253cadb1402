use Rattle.mst_versions.proofs.Names.{◌≡◌, ap, subst, rules, Migrate, was, Seated, IsSameSeat}
use Rattle.mst_versions.specs.declared.migrating.TreeFault.{TreeFault}
use Rattle.mst_versions.specs.declared.migrating.TreeFault.TheVariants.{NoRoom}
use Rattle.mst_versions.specs.Migrating.{LacksTree}
use Rattle.mst_versions.proofs.Migrated.{refused_memory, refused_room}
use Rattle.mst_versions.proofs.Shown.{busy_at, spent_at}
use Rattle.mst_versions.proofs.Written.{wrote}
use Rattle.mst_versions.proofs.migrating.migrate.Goals as goal

pub returns-in-Ok-make_move-clause-wrote : goal.returns-in-Ok-make_move-clause-wrote
returns-in-Ok-make_move-clause-wrote g c =
    let t = c.in-Ok.turn in
    let done = c.in-Ok-make_move in
    let last = c.publish-version in
    let same : IsSameSeat c.args.seat.now last.new.seat = search rules in
    wrote c.args.seat.now c.begin_write.new.seat.me t c.in-Ok.ensures.begun c.args.parameters.number
    c.requires.rest.free.3 (Migrate c.args.to) done.root (was t.format) c.make_move.new.turn
    c.make_move.new.seat.me last.new.seat last.result same done.ensures.made last.ensures.added
    last.ensures.version c.in-Ok.ensures.room

pub returns-in-Err-NoRoom-clause-refused : goal.returns-in-Err-NoRoom-clause-refused
returns-in-Err-NoRoom-clause-refused g c =
    let t = c.in-Ok.turn in
    let refused = c.in-Err-NoRoom.ensures in
    let back = c.give_back-in-Err-NoRoom in
    let is : c.in-Err-NoRoom.field-0 ≡ NoRoom = search rules in
    let lacks = subst (λ (why : TreeFault). LacksTree why c.args.to t c.begin_write.new.seat.me)
    is refused.lacks in
    let same : IsSameSeat c.args.seat.now back.new.seat = search rules in
    refused_room c.args.seat.now c.begin_write.new.seat.me t c.in-Ok.ensures.begun
    c.args.parameters.number
    c.requires.rest.free.3 c.make_move.new.seat.me back.new.seat same
    (ap (λ (z : Seated). z.me) refused.untouched.1) back.ensures.gave c.args.to lacks.0
    c.in-Ok.ensures.room lacks.1

pub returns-in-Err-Busy-clause-refused : goal.returns-in-Err-Busy-clause-refused
returns-in-Err-Busy-clause-refused g c = search (rules, busy_at)

pub returns-in-Err-VersionsSpent-clause-refused : goal.returns-in-Err-VersionsSpent-clause-refused
returns-in-Err-VersionsSpent-clause-refused g c = search (rules, spent_at)

pub returns-in-Err-Memory-clause-refused : goal.returns-in-Err-Memory-clause-refused
returns-in-Err-Memory-clause-refused g c =
    let t = c.in-Ok.turn in
    let why = c.in-Err-Memory.ensures in
    let back = c.give_back in
    let same : IsSameSeat c.args.seat.now back.new.seat = search rules in
    let other = subst (λ (why : TreeFault). LacksTree why c.args.to t c.begin_write.new.seat.me)
    c.in-Err-Memory.field-0-is why.lacks in
    refused_memory c.args.seat.now c.begin_write.new.seat.me t c.in-Ok.ensures.begun
    c.args.parameters.number
    c.requires.rest.free.3 c.make_move.new.seat.me back.new.seat same
    (ap (λ (z : Seated). z.me) why.untouched.1) back.ensures.gave c.args.to other
    c.in-Ok.ensures.room c.in-Err-Memory.refused
