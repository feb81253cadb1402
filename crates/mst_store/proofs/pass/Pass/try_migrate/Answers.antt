use Rattle.mst_store.proofs.Names.{◌≡◌, None, rules, events_of}
use Rattle.mst_store.proofs.FromSeats.{own_refused_move}
use Rattle.mst_store.proofs.pass.Pass.try_migrate.Goals as goal

pub invariant_of-self : goal.invariant_of-self
invariant_of-self g c =
    let fault = c.in_err-was in
    let own : events_of c.self.inside.parameters.number c.self.inside.seat.me.0.seen
    ≡ c.self.inside.seat.me.0.mine = search rules in
    let kept = own_refused_move c.self.inside.parameters.number c.self.inside.seat
    c.migrate.new.seat
    own
    fault.field-0.0
    c.args.to fault.ensures.refused in
    search (rules, kept)

pub invariant_of-self-2 : goal.invariant_of-self-2
invariant_of-self-2 g c = let kept = (c.in_ok-was.ensures.wrote None).own in search (rules, kept)

pub returns-clause-ok : goal.returns-clause-ok
returns-clause-ok g c = search rules

pub returns-clause-err : goal.returns-clause-err
returns-clause-err g c = search rules
