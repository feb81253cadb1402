use Rattle.mst_versions.proofs.Names.{ℕ, List, Option, ap, Change, after, changed, had, content_of}
use Rattle.mst_key.specs.declared.history.Change.TheVariants.{Put}
use Rattle.mst_versions.proofs.Made.{map_stands, same_seat, key_aged, change_made}
use Rattle.mst_versions.proofs.writing.make_put.Goals as goal

pub put-requires : goal.put-requires
put-requires g c =
    record {
      stands = map_stands c.args.turn.now c.args.seat.now.me c.requires.turn;
      free =
          c.requires.turn.blank;
    }

pub returns-clause-same : goal.returns-clause-same
returns-clause-same g c = same_seat c.args.seat.now c.put.new.rows c.put.ensures.beside.1

pub returns-clause-made : goal.returns-clause-made
returns-clause-made g c =
    let t = c.args.turn.now in
    let s = c.args.seat.now in
    let h = c.requires.turn in
    let done = c.in-Ok.ensures in
    let m = after s.me.0.seen in
    let change : Change = Put c.args.key.now c.args.value.now in
    let n = changed m change in
    let z = c.put.new.rows in
    let d = c.put.new.desk in
    change_made t s z h c.in-Ok.root (had c.in-Ok.old) d change done.beside.1 c.requires.open
    (done.stands m h.stands) (λ n stands. done.changes m n h.stands stands)
    (ap (λ (o : Option (List ℕ)). had o) (done.value m h.stands)) (done.cost m h.stands)
    (λ stands. key_aged t s.me h (content_of z.me.0) c.in-Ok.root d n stands
    (done.changes m n h.stands stands) done.written (done.made n stands) (done.cost m h.stands))
