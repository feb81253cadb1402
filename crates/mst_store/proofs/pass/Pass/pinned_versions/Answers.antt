use Rattle.mst_store.proofs.Names.{◌≡◌, ℕ, rules, events_of}
use Rattle.arrayvec.specs.ArrayVec.{ArrayVec}
use Rattle.mst_versions.specs.Listing.{FindsPinned}
use Rattle.mst_store.proofs.FromSeats.{at_made, own_counted}
use Rattle.mst_store.proofs.pass.Pass.pinned_versions.Goals as goal

pub pinned_versions-requires : goal.pinned_versions-requires
pinned_versions-requires g c = search rules

pub invariant_of-self : goal.invariant_of-self
invariant_of-self g c =
    let own : events_of c.self.inside.parameters.number c.self.inside.seat.me.0.seen
    ≡ c.self.inside.seat.me.0.mine = search rules in
    let kept = own_counted c.self.inside.parameters.number c.self.inside.seat
    c.pinned_versions.new.seat
    own
    c.pinned_versions.result
    (λ (v : ArrayVec ℕ). FindsPinned v.items) (λ _ p q h. h.looks) c.pinned_versions.ensures.found
    c.pinned_versions.ensures.busy in
    search (rules, kept)

pub returns-clause-looks : goal.returns-clause-looks
returns-clause-looks g c =
    let found = at_made c.pinned_versions.result (λ (v : ArrayVec ℕ). FindsPinned v.items)
    c.self.inside.parameters.number c.self.inside.seat
    c.pinned_versions.new.seat
    c.self.inside.made c.args.self.now c.self.view_is c.pinned_versions.ensures.found in
    search (rules, found)

pub returns-clause-exact : goal.returns-clause-exact
returns-clause-exact g c =
    let found = at_made c.pinned_versions.result (λ (v : ArrayVec ℕ). FindsPinned v.items)
    c.self.inside.parameters.number c.self.inside.seat
    c.pinned_versions.new.seat
    c.self.inside.made c.args.self.now c.self.view_is c.pinned_versions.ensures.found in
    search (rules, found)

pub returns-clause-found : goal.returns-clause-found
returns-clause-found g c =
    let found = at_made c.pinned_versions.result (λ (v : ArrayVec ℕ). FindsPinned v.items)
    c.self.inside.parameters.number c.self.inside.seat
    c.pinned_versions.new.seat
    c.self.inside.made c.args.self.now c.self.view_is c.pinned_versions.ensures.found in
    search (rules, found)

pub returns-clause-steps : goal.returns-clause-steps
returns-clause-steps g c =
    let found = at_made c.pinned_versions.result (λ (v : ArrayVec ℕ). FindsPinned v.items)
    c.self.inside.parameters.number c.self.inside.seat
    c.pinned_versions.new.seat
    c.self.inside.made c.args.self.now c.self.view_is c.pinned_versions.ensures.found in
    search (rules, found)

pub returns-clause-busy : goal.returns-clause-busy
returns-clause-busy g c = search rules
