use Rattle.mst_script.proofs.Names.{◌≡◌, ◌<◌, length, set, rules, sym, ap, ◌∙◌, subst, roster}
use Rattle.mst_script.proofs.Finding.{stands_at, set_same}
use Rattle.mst_script.proofs.passes.Passes.recall.Goals as goal

pub returns : goal.returns
returns g c =
    let inside : c.args.self.now ≡ roster c.self.inside.free.items c.self.inside.pinned.items =
    search rules in
    let pinned : c.self.inside.pinned.items ≡ c.args.self.now.pinned = search rules in
    let within : c.args.place < length c.self.inside.pinned.items =
    subst (λ xs. c.args.place < length xs) (sym pinned) c.requires.place in
    let p = c.index_mut.result.now in record {
      asked = record {
        p = p;
        here = stands_at c.self.inside.pinned.items c.args.self.now.pinned c.args.place p within
            c.index_mut.ensures.value pinned;
        recalls = c.recall.ensures.found;
        same =
            ap (λ x. roster c.self.inside.free.items
            (set c.self.inside.pinned.items c.args.place x))
            c.recall.ensures.same
            ∙ ap (roster c.self.inside.free.items)
            (set_same c.self.inside.pinned.items c.args.place p within c.index_mut.ensures.value)
            ∙ sym inside;
      };
    }

pub index_mut-requires : goal.index_mut-requires
index_mut-requires g c = search rules

pub recall-requires : goal.recall-requires
recall-requires g c = search rules

pub invariant_of-self : goal.invariant_of-self
invariant_of-self g c = search rules
