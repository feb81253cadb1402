use Rattle.mst_store.proofs.Names.{◌≡◌, rules, events_of}
use Rattle.mst_versions.specs.Counting.{Counts}
use Rattle.mst_store.proofs.FromSeats.{at_made, own_counted}
use Rattle.mst_store.proofs.pass.Pass.rows.Goals as goal

pub rows-requires : goal.rows-requires
rows-requires g c = search rules

pub invariant_of-self : goal.invariant_of-self
invariant_of-self g c =
    let own : events_of c.self.inside.parameters.number c.self.inside.seat.me.0.seen
    ≡ c.self.inside.seat.me.0.mine = search rules in
    let kept = own_counted c.self.inside.parameters.number c.self.inside.seat c.rows.new.seat own
    c.rows.result
    Counts (λ _ p q h. h.looks) c.rows.ensures.counted c.rows.ensures.busy in
    search (rules, kept)

pub returns-clause-looks : goal.returns-clause-looks
returns-clause-looks g c =
    let counted = at_made c.rows.result Counts c.self.inside.parameters.number c.self.inside.seat
    c.rows.new.seat
    c.self.inside.made c.args.self.now c.self.view_is c.rows.ensures.counted in
    search (rules, counted)

pub returns-clause-some : goal.returns-clause-some
returns-clause-some g c =
    let counted = at_made c.rows.result Counts c.self.inside.parameters.number c.self.inside.seat
    c.rows.new.seat
    c.self.inside.made c.args.self.now c.self.view_is c.rows.ensures.counted in
    search (rules, counted)

pub returns-clause-alone : goal.returns-clause-alone
returns-clause-alone g c =
    let counted = at_made c.rows.result Counts c.self.inside.parameters.number c.self.inside.seat
    c.rows.new.seat
    c.self.inside.made c.args.self.now c.self.view_is c.rows.ensures.counted in
    search (rules, counted)

pub returns-clause-exact : goal.returns-clause-exact
returns-clause-exact g c =
    let counted = at_made c.rows.result Counts c.self.inside.parameters.number c.self.inside.seat
    c.rows.new.seat
    c.self.inside.made c.args.self.now c.self.view_is c.rows.ensures.counted in
    search (rules, counted)

pub returns-clause-found : goal.returns-clause-found
returns-clause-found g c =
    let counted = at_made c.rows.result Counts c.self.inside.parameters.number c.self.inside.seat
    c.rows.new.seat
    c.self.inside.made c.args.self.now c.self.view_is c.rows.ensures.counted in
    search (rules, counted)

pub returns-clause-steps : goal.returns-clause-steps
returns-clause-steps g c =
    let counted = at_made c.rows.result Counts c.self.inside.parameters.number c.self.inside.seat
    c.rows.new.seat
    c.self.inside.made c.args.self.now c.self.view_is c.rows.ensures.counted in
    search (rules, counted)

pub returns-clause-busy : goal.returns-clause-busy
returns-clause-busy g c = search rules
