-- What filters of a list keep.
use Rattle.mst_theorem.proofs.Names.{◌≡◌, Bool, true, false, List, [], ◌∷◌, filter, refl, sym, ap, ◌∙◌, ⊎_elim, AllByRecursion, cases_Bool}
use Rattle.std.proofs.lemmas.Bool.{cond-true, cond-false, cond_both}

pub weaker : {X : Type 0} (P Q : X → Type 0) → ((x : X) → P x → Q x) → (xs : List X)
    → AllByRecursion P xs → AllByRecursion Q xs
weaker P Q f [] a = tt
weaker P Q f (x ∷ xs) a = (f x a.0, weaker P Q f xs a.1)

pub take_in : {X : Type 0} (test : X → Bool) (x : X) (xs : List X) → test x ≡ true
    → filter test (x ∷ xs) ≡ x ∷ filter test xs
take_in test x xs e = cond-true (test x) (x ∷ filter test xs) (filter test xs) e

pub leave_out : {X : Type 0} (test : X → Bool) (x : X) (xs : List X) → test x ≡ false
    → filter test (x ∷ xs) ≡ filter test xs
leave_out test x xs e = cond-false (test x) (x ∷ filter test xs) (filter test xs) e

-- two filters in either order
pub filter_swap : {X : Type 0} (p q : X → Bool) (xs : List X)
    → filter p (filter q xs) ≡ filter q (filter p xs)
filter_swap {X} p q [] = refl
filter_swap {X} p q (x ∷ xs) = let ih : filter p (filter q xs) ≡ filter q (filter p xs) =
    filter_swap p q xs in
    ⊎_elim
    (λ (yes : p x ≡ true). ⊎_elim
    (λ (also : q x ≡ true). ap (filter p) (take_in q x xs also) ∙ take_in p x (filter q xs) yes
    ∙ ap (λ (l : List X). x ∷ l) ih
    ∙ sym (ap (filter q) (take_in p x xs yes) ∙ take_in q x (filter p xs) also))
    (λ (not : q x ≡ false). ap (filter p) (leave_out q x xs not) ∙ ih
    ∙ sym (ap (filter q) (take_in p x xs yes) ∙ leave_out q x (filter p xs) not))
    (cases_Bool (q x)))
    (λ (no : p x ≡ false). ⊎_elim
    (λ (also : q x ≡ true). ap (filter p) (take_in q x xs also) ∙ leave_out p x (filter q xs) no
    ∙ ih ∙ sym (ap (filter q) (leave_out p x xs no)))
    (λ (not : q x ≡ false). ap (filter p) (leave_out q x xs not) ∙ ih
    ∙ sym (ap (filter q) (leave_out p x xs no)))
    (cases_Bool (q x)))
    (cases_Bool (p x))

-- what holds of all holds of those that pass
pub kept : {X : Type 0} (P : X → Type 0) (test : X → Bool) (xs : List X) → AllByRecursion P xs
    → AllByRecursion P (filter test xs)
kept P test [] a = tt
kept P test (x ∷ xs) a = cond_both (test x) (x ∷ filter test xs) (filter test xs)
    (AllByRecursion P) (λ _. (a.0, kept P test xs a.1)) (λ _. kept P test xs a.1)

-- and each of them passes
pub passes : {X : Type 0} (P : X → Type 0) (test : X → Bool) (xs : List X) → AllByRecursion P xs
    → AllByRecursion (λ x. P x × (test x ≡ true)) (filter test xs)
passes {X} P test [] a = tt
passes {X} P test (x ∷ xs) a = cond_both (test x) (x ∷ filter test xs) (filter test xs)
    (AllByRecursion (λ (y : X). P y × (test y ≡ true))) (λ e. ((a.0, e), passes P test xs a.1))
    (λ _. passes P test xs a.1)

-- where all pass, all are kept; where none does, none
pub all_pass : {X : Type 0} (test : X → Bool) (xs : List X)
    → AllByRecursion (λ x. test x ≡ true) xs → filter test xs ≡ xs
all_pass {X} test [] a = refl
all_pass {X} test (x ∷ xs) a = take_in test x xs a.0
    ∙ ap (λ (l : List X). x ∷ l) (all_pass test xs a.1)

pub none_pass : {X : Type 0} (test : X → Bool) (xs : List X)
    → AllByRecursion (λ x. test x ≡ false) xs → filter test xs ≡ []
none_pass test [] a = refl
none_pass test (x ∷ xs) a = leave_out test x xs a.0 ∙ none_pass test xs a.1
