use Rattle.std.proofs.Common.{rules, ◌≡◌, ◌+◌, ◌++◌, ℕ, List, refl, sym, ap, subst, arith, ◌∙◌}
use Rattle.std.proofs.lemmas.List.{append-nil, append_assoc}
use Rattle.std.proofs.lemmas.Option.{get_or_from_slice_get}
use Rattle.sha2.specs.Hashers.{Holds256}
use Rattle.mst_prefix.specs.declared.beginnings.Beginning.{Beginning}
use Rattle.mst_prefix.proofs.Lists.{all-set}
use Rattle.mst_prefix.proofs.Numbers.{with_text, its_text, renewed, all_still_have, kept_with}
use Rattle.mst_prefix.proofs.beginnings.Beginnings.renew_at.Goals as goal

pub returns-clause-entry : goal.returns-clause-entry
returns-clause-entry g c = λ yes m entry b there ends taken.
    let next = c.args.self.now.next in
    let texts = taken.0 in
    let kept = taken.1 in
    let front = taken.2 in
    let number = c.requires.before texts front kept taken.3 in
    let old : c.index_mut.result.now ≡ b =
    c.index_mut.ensures.value
    ∙ get_or_from_slice_get c.args.self.now.kept.items.items c.args.place b
    c.index_mut.result.now there in
    let whole : List ℕ = front ++ b.piece.items in
    let holds : Holds256 c.renew.new.hasher whole =
    subst (λ (x : Beginning). Holds256 c.renew.new.hasher (front ++ x.piece.items)) old
    (c.renew.ensures.took front (c.catch_up.ensures.hash texts front kept taken.3)) in
    let has = renewed texts next front b c.renew.new.self c.args.before
    c.renew.ensures.before c.renew.ensures.number
    (c.renew.ensures.piece ∙ ap (λ (x : Beginning). x.piece.items) old) number.0 number.1
    (subst (λ h. Holds256 h whole) (sym c.renew.ensures.hash) holds) in
    let step : c.in-Some.after ≡ next + 1 = search rules in
    let all = all_still_have texts next whole _ kept.beginnings in (
      with_text texts next whole,
      kept_with texts c.args.self.now _ whole kept step (all-set _ _ c.args.place _ all has),
      whole,
      (holds, omega (arith, step), its_text texts next whole next refl),
      ap (λ (xs : List ℕ). xs ++ entry) taken.4
          ∙ append_assoc front c.args.self.now.piece.items entry
          ∙ ap (λ (xs : List ℕ). front ++ xs) (sym ends) ∙ sym (append-nil whole)
          ∙ ap (λ (xs : List ℕ). whole ++ xs) (sym c.clear.ensures),
    )
