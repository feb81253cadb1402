use Rattle.mst_node.proofs.Names.{Some, List, ℕ, sym, ap, ◌∙◌, subst, FlatEntry, FlatNode, entry_at, seen, HasSize}
use Rattle.mst_node.proofs.ReadIsSpelled.{some_same}
use Rattle.mst_node.proofs.EntryPlaces.{seen-place, none-some, read-same}
use Rattle.mst_node.proofs.flat.Flat.entry.Goals as goal

pub unreachable-requires : goal.unreachable-requires
unreachable-requires c =
    let there = seen-place c.self.inside.format c.self.inside.count c.args.i c.self.inside.body.now
    c.args.self.now.entries c.self.invariant (ap (λ (n : FlatNode). n.entries) c.self.view_is)
    c.requires.inside in
    none-some _ there.entry c.in-None-entry_of.ensures.reading
    (read-same _ (entry_at c.self.inside.format) c.in-Some.rest.now there.rest
    c.in-Some.ensures.reading there.behind ∙ there.reading)

pub unreachable-requires-in-None : goal.unreachable-requires-in-None
unreachable-requires-in-None c =
    let there = seen-place c.self.inside.format c.self.inside.count c.args.i c.self.inside.body.now
    c.args.self.now.entries c.self.invariant (ap (λ (n : FlatNode). n.entries) c.self.view_is)
    c.requires.inside in
    none-some _ there.rest c.in-None.ensures.reading there.behind

pub returns-clause-entry : goal.returns-clause-entry
returns-clause-entry c =
    let there = seen-place c.self.inside.format c.self.inside.count c.args.i c.self.inside.body.now
    c.args.self.now.entries c.self.invariant (ap (λ (n : FlatNode). n.entries) c.self.view_is)
    c.requires.inside in
    let same =
    some_same there.entry (seen c.in-Some-entry_of.entry, c.in-Some-entry_of.field-0-1.now)
    (sym (read-same _ (entry_at c.self.inside.format) c.in-Some.rest.now there.rest
    c.in-Some.ensures.reading there.behind ∙ there.reading)
    ∙ c.in-Some-entry_of.ensures.reading) in
    there.place ∙ ap (λ (p : FlatEntry × List ℕ). Some p.0) same

pub returns-clause-held : goal.returns-clause-held
returns-clause-held c =
    subst (λ (n : FlatNode). HasSize n.format c.in-Some-entry_of.entry.value.now) c.self.view_is
    c.in-Some-entry_of.ensures.held
