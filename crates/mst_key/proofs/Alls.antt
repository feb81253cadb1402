-- What holds of each pair or event of a list: by recursion on the list, as the definitions say it.
use Rattle.mst_key.proofs.Names.{◌≡◌, Bool, true, List, [], ◌∷◌, ◌++◌, filter, refl, ap, ◌∙◌, cond_both, cond-true, cond-false, AllByRecursion}
use mathlib.Core.Bool.{false}

module _ {X : Type 0} where
  pub alls-append : (P : X → Type 0) (xs ys : List X) → AllByRecursion P xs → AllByRecursion P ys
      → AllByRecursion P (xs ++ ys)
  alls-append P [] ys a b = b
  alls-append P (x ∷ xs) ys a b = (a.0, alls-append P xs ys a.1 b)

  pub alls-front : (P : X → Type 0) (xs ys : List X) → AllByRecursion P (xs ++ ys)
      → AllByRecursion P xs
  alls-front P [] ys a = tt
  alls-front P (x ∷ xs) ys a = (a.0, alls-front P xs ys a.1)

  pub alls-back : (P : X → Type 0) (xs ys : List X) → AllByRecursion P (xs ++ ys)
      → AllByRecursion P ys
  alls-back P [] ys a = a
  alls-back P (x ∷ xs) ys a = alls-back P xs ys a.1

  pub alls-weaker : (P Q : X → Type 0) → ((x : X) → P x → Q x) → (xs : List X) → AllByRecursion P xs
      → AllByRecursion Q xs
  alls-weaker P Q f [] a = tt
  alls-weaker P Q f (x ∷ xs) a = (f x a.0, alls-weaker P Q f xs a.1)

  pub alls-both : (P Q R : X → Type 0) → ((x : X) → P x → Q x → R x) → (xs : List X)
      → AllByRecursion P xs → AllByRecursion Q xs → AllByRecursion R xs
  alls-both P Q R f [] a b = tt
  alls-both P Q R f (x ∷ xs) a b = (f x a.0 b.0, alls-both P Q R f xs a.1 b.1)

  pub alls-filter : (P : X → Type 0) (test : X → Bool) (xs : List X) → AllByRecursion P xs
      → AllByRecursion P (filter test xs)
  alls-filter P test [] a = tt
  alls-filter P test (x ∷ xs) a =
      cond_both (test x) (x ∷ filter test xs) (filter test xs) (AllByRecursion P)
      (λ e. (a.0, alls-filter P test xs a.1)) (λ e. alls-filter P test xs a.1)

  -- what a filter keeps passes its test
  pub alls-passes : (test : X → Bool) (xs : List X) → AllByRecursion (λ x. test x ≡ true)
      (filter test xs)
  alls-passes test [] = tt
  alls-passes test (x ∷ xs) =
      cond_both (test x) (x ∷ filter test xs) (filter test xs) (AllByRecursion (λ y. test y ≡ true))
      (λ e. (e, alls-passes test xs)) (λ e. alls-passes test xs)

  -- a filter keeps the whole list if each element passes, and nothing if none does
  pub filter-whole : (test : X → Bool) (xs : List X) → AllByRecursion (λ x. test x ≡ true) xs
      → filter test xs ≡ xs
  filter-whole test [] a = refl
  filter-whole test (x ∷ xs) a = cond-true (test x) (x ∷ filter test xs) (filter test xs) a.0
      ∙ ap (λ (l : List X). x ∷ l) (filter-whole test xs a.1)

  pub filter-nothing : (test : X → Bool) (xs : List X) → AllByRecursion (λ x. test x ≡ false) xs
      → filter test xs ≡ []
  filter-nothing test [] a = refl
  filter-nothing test (x ∷ xs) a = cond-false (test x) (x ∷ filter test xs) (filter test xs) a.0
      ∙ filter-nothing test xs a.1
