-- All passes of a store, when the workers that had them have returned.
use Rattle.mst_load.proofs.Names.{◌≡◌, ℕ, suc, ◌+◌, ◌<◌, List, [], ◌∷◌, length, get_or, refl, sym, ap, ◌∙◌, subst, arith, Contains, StoreId, Known, IsSamePass, AreAllPasses, numbers, IsNewOf}
use Rattle.std.proofs.lemmas.Grind.{merely}
use Rattle.mst_store.specs.Passes.{new_passes}
use Rattle.mst_store.proofs.AllPasses.{all_new, first_length, first_at}

same_numbers : (ps qs : List Known) → length qs ≡ length ps
    → ((k : ℕ) (d : Known) → k < length ps → IsSamePass (get_or ps k d) (get_or qs k d))
    → numbers qs ≡ numbers ps
same_numbers [] [] l same = refl
same_numbers [] (q ∷ qs) l same = absurd (omega (arith, l))
same_numbers (p ∷ ps) [] l same = absurd (omega (arith, l))
same_numbers (p ∷ ps) (q ∷ qs) l same =
    ap (λ (n : ℕ). n ∷ numbers qs) ((same 0 p (omega arith)).1) ∙ ap (λ (m : List ℕ). p.number ∷ m)
    (same_numbers ps qs (omega (arith, l)) (λ k d below. same (suc k) d (omega (arith, below))))

-- each of them is the same pass as before
pub all_same : (ps qs : List Known) → length qs ≡ length ps
    → ((k : ℕ) (d : Known) → k < length ps → IsSamePass (get_or ps k d) (get_or qs k d))
    → AreAllPasses ps → AreAllPasses qs
all_same ps qs l same w = record {
  store = w.store;
  of_one = λ k d below. let here : k < length ps = omega (arith, l, below) in (same k d here).0
      ∙ w.of_one k d here;
  complete = λ n low high. subst (λ (m : List ℕ). Contains m n) (sym (same_numbers ps qs l same))
      (w.complete n low high);
}

-- each pass that was dealt is of the store, and has no event yet
pub dealt_worker : (s : StoreId) (ps : List Known) (k : ℕ) (d : Known) → ps ≡ new_passes s
    → k < s.passes → IsNewOf s (get_or ps k d)
dealt_worker s ps k d is below =
    subst (IsNewOf s)
    (sym (ap (λ (qs : List Known). get_or qs k d) is ∙ first_at s s.passes k d below))
    (record {
      of_store = refl;
      keeps = λ i e none. absurd (omega (arith, none));
      fresh =
          merely refl;
    })

-- and its number is the next
pub dealt_number : (s : StoreId) (ps : List Known) (k : ℕ) (d : Known) → ps ≡ new_passes s
    → k < s.passes → (get_or ps k d).number ≡ k + 1
dealt_number s ps k d is below =
    ap (λ (p : Known). p.number)
    (ap (λ (qs : List Known). get_or qs k d) is ∙ first_at s s.passes k d below)

-- passes of the store with the numbers from 1 on, as many as it has
pub all_back : (s : StoreId) (qs : List Known) → length qs ≡ s.passes
    → ((k : ℕ) (d : Known) → k < length qs → (get_or qs k d).store ≡ s)
    → ((k : ℕ) (d : Known) → k < length qs → (get_or qs k d).number ≡ k + 1) → AreAllPasses qs
all_back s qs l own numbered =
    let e : length (new_passes s) ≡ s.passes = first_length s s.passes in
    let same : (k : ℕ) (d : Known) → k < length (new_passes s)
    → IsSamePass (get_or (new_passes s) k d) (get_or qs k d) =
    (λ k d below. let here : k < length qs = omega (arith, below, l, e) in let low : k < s.passes =
    omega (arith, below, e) in (
      own k d here ∙ sym (ap (λ (p : Known). p.store) (first_at s s.passes k d low)),
      numbered k d here ∙ sym (ap (λ (p : Known). p.number) (first_at s s.passes k d low)),
    )) in
    let count : length qs ≡ length (new_passes s) = l ∙ sym e in
    all_same (new_passes s) qs count same (all_new s)

-- both, for the function that starts the workers
pub ruleset of_load = (dealt_worker, all_back)
