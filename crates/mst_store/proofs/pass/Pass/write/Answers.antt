use Rattle.mst_store.proofs.Names.{◌≡◌, None, rules, events_of}
use Rattle.mst_store.proofs.FromSeats.{own_refused}
use Rattle.mst_store.proofs.pass.Pass.write.Goals as goal

pub write-requires-clause-rest : goal.write-requires-clause-rest
write-requires-clause-rest g c = search rules

pub write-requires-clause-mine : goal.write-requires-clause-mine
write-requires-clause-mine g c = search rules

pub invariant_of-self : goal.invariant_of-self
invariant_of-self g c =
    let fault = c.in_err-old in
    let own : events_of c.self.inside.parameters.number c.self.inside.seat.me.0.seen
    ≡ c.self.inside.seat.me.0.mine = search rules in
    let kept = own_refused c.self.inside.parameters.number c.self.inside.seat c.write.new.seat own
    fault.field-0.0
    c.args.change fault.ensures.refused in
    search (rules, kept)

pub invariant_of-self-2 : goal.invariant_of-self-2
invariant_of-self-2 g c = let kept = (c.in_ok-old.ensures.wrote None).own in search (rules, kept)

pub returns-clause-ok : goal.returns-clause-ok
returns-clause-ok g c = search rules

pub returns-clause-err : goal.returns-clause-err
returns-clause-err g c = search rules

pub write-requires-clause-keyed : goal.write-requires-clause-keyed
write-requires-clause-keyed g c = search rules

pub write-requires-clause-single : goal.write-requires-clause-single
write-requires-clause-single g c = search rules
