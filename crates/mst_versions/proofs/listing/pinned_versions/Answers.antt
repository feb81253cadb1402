use Rattle.mst_versions.proofs.Names.{List, ℕ, ◌∙◌, rules, subst, IsSameSeat, IsListing}
use Rattle.mst_versions.proofs.Listed.{keeps_pass, is_free, finds_pinned}
use Rattle.mst_versions.proofs.listing.pinned_versions.Goals as goal

pub returns-clause-pass : goal.returns-clause-pass
returns-clause-pass g c =
    keeps_pass c.args.seat.now c.ask_all-found.new.seat c.in-Some.desk c.take.new.seat.me
    c.in-Some.ensures.taken c.ask_all-found.ensures.all

pub returns-clause-free : goal.returns-clause-free
returns-clause-free g c =
    is_free c.args.seat.now c.ask_all-found.new.seat c.in-Some.desk c.take.new.seat.me
    c.in-Some.ensures.taken c.ask_all-found.ensures.all c.args.parameters.number
    c.requires.rest.free

pub returns-clause-found : goal.returns-clause-found
returns-clause-found g c =
    let same : IsSameSeat c.args.seat.now c.ask_all-found.new.seat = search rules in
    finds_pinned c.args.seat.now c.ask_all-found.new.seat c.in-Some.desk c.take.new.seat.me
    c.in-Some.ensures.taken c.ask_all-found.ensures.all c.args.parameters.number
    c.requires.rest.free.3 same c.ascending.result.items
    (subst (λ (l : List ℕ). IsListing l c.ascending.result.items)
    (c.as_slice.ensures.value ∙ c.ask_all-found.ensures.found) c.ascending.ensures.listing)
