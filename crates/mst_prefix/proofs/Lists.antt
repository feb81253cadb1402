-- Lists of which each element has a property, with an item put into them.
use Rattle.std.proofs.Common.{◌≡◌, ℕ, zero, suc, List, [], ◌∷◌, Option, None, Some, IfSome, IfNone, subst, sym, inl, inr}
use Rattle.std.specs.Prelude.{slice_get, slice_set}
use Rattle.std.specs.List.{AllByRecursion}
use Rattle.std.proofs.lemmas.Option.{same_Some}
use Rattle.mst_key.proofs.Alls.{alls-append}
use Rattle.mst_prefix.specs.Places.{IsPutAt}

module _ {X : Type 0} where
  pub all-at : (P : X → Type 0) (xs : List X) (i : ℕ) (x : X) → AllByRecursion P xs
      → slice_get xs i ≡ Some x → P x
  all-at P [] i x all at = cc
  all-at P (y ∷ ys) zero x all at = subst P (same_Some y x at) all.0
  all-at P (y ∷ ys) (suc i) x all at = all-at P ys i x all.1 at

  pub all-set : (P : X → Type 0) (xs : List X) (i : ℕ) (x : X) → AllByRecursion P xs → P x
      → AllByRecursion P (slice_set xs i x)
  all-set P [] i x all has = tt
  all-set P (y ∷ ys) zero x all has = (has, all.1)
  all-set P (y ∷ ys) (suc i) x all has = (all.0, all-set P ys i x all.1 has)

  pub all-put : (P : X → Type 0) (place : ℕ) (x : X) (old new : List X) → IsPutAt place x old new
      → AllByRecursion P old → P x → AllByRecursion P new
  all-put P place x old new put all has =
      elim put.others [
        | inl e ↦ subst (AllByRecursion P) (sym e) (all-set P old place x all has)
        | inr e ↦ subst (AllByRecursion P) (sym e) (alls-append P old (x ∷ []) all (has, tt))
      ]

  -- also if it may not have been put
  pub all-put-if : (P : X → Type 0) (x : X) (old new : List X) (place : Option ℕ)
      → IfSome place (λ i. IsPutAt i x old new) → IfNone place (new ≡ old)
      → AllByRecursion P old → P x → AllByRecursion P new
  all-put-if P x old new None put none all has = subst (AllByRecursion P) (sym none) all
  all-put-if P x old new (Some i) put none all has = all-put P i x old new put all has
