use Rattle.mst_script.proofs.Names.{◌≡◌, ◌++◌, ◌∷◌, [], get_or, rules, ap, ◌∙◌, swap_remove}
use Rattle.mst_script.proofs.passes.Passes.pin.Goals as goal

pub returns : goal.returns
returns g c =
    let free : c.self.inside.free.items ≡ c.args.self.now.free = search rules in
    let pinned : c.self.inside.pinned.items ≡ c.args.self.now.pinned = search rules in
    let p = c.swap_remove.result in record {
      pins = record {
        p = p;
        q = c.pin-pinned.result;
        here = c.swap_remove.ensures.value ∙ ap (λ xs. get_or xs c.args.place p) free;
        looks = c.pin-pinned.ensures.looks;
        version_is = c.version-version.ensures.version;
        free = c.swap_remove.ensures.items ∙ ap (λ xs. swap_remove xs c.args.place p) free;
        pinned = c.push_reserved.ensures.items ∙ ap (λ xs. xs ++ c.pin-pinned.result ∷ []) pinned;
      };
    }

pub swap_remove-requires : goal.swap_remove-requires
swap_remove-requires g c = search rules

pub push_reserved-requires : goal.push_reserved-requires
push_reserved-requires g c = search rules

pub invariant_of-self : goal.invariant_of-self
invariant_of-self g c = search rules
