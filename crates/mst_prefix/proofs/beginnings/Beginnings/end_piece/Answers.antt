use Rattle.std.proofs.Common.{rules, ◌≡◌, ◌+◌, ◌++◌, ℕ, List, refl, sym, ap, subst, arith, ◌∙◌}
use Rattle.std.proofs.lemmas.List.{append-nil}
use Rattle.sha2.specs.Hashers.{Holds256}
use Rattle.arrayvec.specs.ArrayVec.{ArrayVec}
use Rattle.mst_prefix.specs.declared.beginnings.Beginning.{Beginning}
use Rattle.mst_prefix.proofs.Lists.{all-put-if}
use Rattle.mst_prefix.proofs.Numbers.{with_text, its_text, now_has, all_still_have, kept_with}
use Rattle.mst_prefix.proofs.beginnings.Beginnings.end_piece.Goals as goal

pub returns-clause-same : goal.returns-clause-same
returns-clause-same g c = λ m taken.
    let next = c.args.self.now.next in
    let texts = taken.0 in
    let kept = taken.1 in
    let front = taken.2 in
    let piece : List ℕ = c.args.self.now.piece.items in
    let number = c.in-Some-Some.ensures.number texts c.args.hasher.now front kept taken.3 in
    let holds : Holds256 c.update.new.self (front ++ piece) =
    subst (λ (xs : List ℕ). Holds256 c.update.new.self (front ++ xs))
    c.as_slice.ensures.value
    (c.update.ensures front (c.catch_up.ensures.hash texts front kept taken.3)) in
    let step : c.in-Some-Some.after ≡ next + 1 = search rules in
    let all = all_still_have texts next (front ++ piece) _ kept.beginnings in
    let ends = taken.4 ∙ sym (append-nil (front ++ piece))
    ∙ ap (λ (xs : List ℕ). (front ++ piece) ++ xs)
    (sym (ap (λ (p : ArrayVec ℕ). p.items) c.replace-piece.ensures.after
    ∙ c.new.ensures))
    in
    let b : Beginning = record {
      before = c.in-Some-Some.before;
      piece = c.replace-piece.result;
      number = next;
      hash = c.in-Ok.hash;
    } in
    let spelled : front ++ piece ≡ texts b.before ++ b.piece.items =
    ap (λ t. t ++ piece) (sym number.1)
    ∙ ap (λ (p : ArrayVec ℕ). texts b.before ++ p.items) (sym c.replace-piece.ensures.value)
    in
    let same : c.in-Ok.hash ≡ c.update.new.self = search rules in
    let copied : Holds256 c.in-Ok.hash (front ++ piece) =
    subst (λ h. Holds256 h (front ++ piece)) (sym same) holds in
    let has = now_has texts next (front ++ piece) b number.0 refl spelled copied in (
      with_text texts next (front ++ piece),
      kept_with texts c.args.self.now _ (front ++ piece) kept step
          (all-put-if _ b _ _ _ c.put-place.ensures.put c.put-place.ensures.none all has),
      front ++ piece,
      (holds, omega (arith, step), its_text texts next (front ++ piece) next refl),
      ends,
    )
