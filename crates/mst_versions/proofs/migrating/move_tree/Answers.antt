use Rattle.mst_versions.proofs.Names.{sym, subst, Migrate, after, was, Seated, Made}
use Rattle.mst_versions.proofs.Migrated.{lacks_rows, may_fall, moved_made}
use Rattle.mst_versions.proofs.migrating.move_tree.Goals as goal

pub returns-in_default-clause-lacks : goal.returns-in_default-clause-lacks
returns-in_default-clause-lacks g c =
    let s = c.args.seat.now in
    let m = after s.me.0.seen in
    lacks_rows c.args.turn.now s.me c.args.to c.requires.other
    (c.in_default.ensures.no_room m c.requires.tree)

pub fell-requires : goal.fell-requires
fell-requires g c =
    let s = c.args.seat.now in
    let h = c.requires.turn in
    let done = c.in-Ok.ensures in
    let m = after s.me.0.seen in
    record {
      stands = may_fall c.args.turn.now s c.plant.new.rows h c.args.to c.plant.new.desk
          c.in-Ok.root done.takes done.keeps (done.stands m h.stands.map c.requires.tree);
    }

pub returns-clause-made : goal.returns-clause-made
returns-clause-made g c =
    let t = c.args.turn.now in
    let s = c.args.seat.now in
    let h = c.requires.turn in
    let done = c.in-Ok.ensures in
    let m = after s.me.0.seen in
    let w = done.stands m h.stands.map c.requires.tree in
    subst (λ (z : Seated). Made (Migrate c.args.to) t s.me c.in-Ok.root (was t.format)
    (record t { desk = c.fell.new.desk }) z.me) (sym c.fell.ensures.same)
    (moved_made t s c.plant.new.rows h c.args.to c.plant.new.desk c.in-Ok.root done.takes done.keeps
    w c.fell.new.desk c.fell.ensures.fells c.requires.other done.beside.1 c.requires.open
    (done.count m c.requires.tree))
