-- A change of rows adds none and loses none.
use Rattle.mst_path.proofs.Names.{◌≡◌, ℕ, suc, List, [], ◌∷◌, length, Some, None, refl, sym, ◌∙◌, ap, slice_get, State, Life, Changes}
use Rattle.mst_path.proofs.lemmas.versions.Reached.{by_place}

-- lists that end at the same place
same_end : (xs ys : List Life) → ((r : ℕ) → slice_get xs r ≡ None → slice_get ys r ≡ None)
    → ((r : ℕ) → slice_get ys r ≡ None → slice_get xs r ≡ None) → length xs ≡ length ys
same_end [] [] a b = refl
same_end [] (y ∷ ys) a b = let no : Some y ≡ None = a 0 refl in absurd cc
same_end (x ∷ xs) [] a b = let no : Some x ≡ None = b 0 refl in absurd cc
same_end (x ∷ xs) (y ∷ ys) a b =
    ap (λ (n : ℕ). suc n) (same_end xs ys (λ r. a (suc r)) (λ r. b (suc r)))

pub as_many : (old new : State) (before after : List ℕ) → Changes old new before after
    → length new.lives ≡ length old.lives
as_many old new before after change = same_end new.lives old.lives
    (λ r none. by_place old new before after change r _
    (λ only. let born = ((change.taken r).1 only).1 in absurd cc)
    (λ only. let dead = ((change.killed r).1 only).3 in absurd cc)
    (λ both. sym (change.others r both) ∙ none))
    (λ r none. by_place old new before after change r _
    (λ only. let free = ((change.taken r).1 only).0 in absurd cc)
    (λ only. let born = ((change.killed r).1 only).1 in absurd cc)
    (λ both. change.others r both ∙ none))
