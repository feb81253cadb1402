-- All passes of a store: so they are when they are dealt, and so they stay.
use Rattle.mst_store.proofs.Names.{◌≡◌, ℕ, zero, suc, ◌+◌, ◌<◌, ◌≤◌, ◌≢◌, List, [], ◌∷◌, ◌++◌, length, length-append, get_or, set, map, sym, refl, ap, ◌∙◌, subst, arith, All, All-append, dite, ℕ_discrete, StoreId, Known, having_asked, new_pass, first_passes, numbers, AreAllPasses, having_seen}
use Rattle.std.proofs.Common.{append-nil}
use Rattle.std.specs.List.{Contains, swap}
use Rattle.std.specs.List.Sorted.{IsPermutation}
use Rattle.std.proofs.lemmas.List.{get_or-append-add}
use Rattle.std.proofs.Math.ListN.{get_or-append}
use Rattle.std.proofs.lemmas.List.Elements.{All-set, Contains-append_left, Contains-append_right}
use Rattle.std.proofs.lemmas.List.Sorted.{IsPermutation-map, IsPermutation-swap, All-permutation, Contains-permutation}
use Rattle.std.proofs.Math.Seq.{map-set_same}
use Rattle.mst_store.specs.Passes.{IsSamePass, new_passes}
use Rattle.mst_store.specs.Settling.{Settled}

pub lone : (s : StoreId) (p : Known) → p.store ≡ s → All (λ q. q.store ≡ s) (p ∷ [])
lone s p is zero d l = is
lone s p is (suc k) d l = absurd (omega arith)

pub first_stores : (s : StoreId) (n : ℕ) → All (λ p. p.store ≡ s) (first_passes s n)
first_stores s zero k d l = absurd (omega arith)
first_stores s (suc n) k d l = All-append (λ (p : Known). p.store ≡ s) (first_passes s n)
    (new_pass s (suc n) ∷ []) (first_stores s n) (lone s (new_pass s (suc n)) refl) k d l

pub numbers-append : (ps qs : List Known) → numbers (ps ++ qs) ≡ numbers ps ++ numbers qs
numbers-append [] qs = refl
numbers-append (p ∷ ps) qs = ap (λ (l : List ℕ). p.number ∷ l) (numbers-append ps qs)

pub first_numbers : (s : StoreId) (n k : ℕ) → 0 < k → k ≤ n → Contains (numbers (first_passes s n))
    k
first_numbers s zero k low high = absurd (omega arith)
first_numbers s (suc n) k low high =
    subst (λ (l : List ℕ). Contains l k)
    (sym (numbers-append (first_passes s n) (new_pass s (suc n) ∷ []))) (dite (ℕ_discrete k (suc n))
    (λ (is : k ≡ suc n). Contains-append_right (numbers (first_passes s n)) (suc n ∷ []) k
    (0, omega arith, sym is))
    (λ (other : k ≢ suc n). Contains-append_left (numbers (first_passes s n)) (suc n ∷ []) k
    (first_numbers s n k low (omega (arith, other)))))

-- by their places
pub first_length : (s : StoreId) (n : ℕ) → length (first_passes s n) ≡ n
first_length s zero = refl
first_length s (suc n) = let e : length (first_passes s n) ≡ n = first_length s n in
    let a : length (first_passes s n ++ new_pass s (suc n) ∷ []) ≡ length (first_passes s n) + 1 =
    length-append (first_passes s n) (new_pass s (suc n) ∷ []) in omega (arith, e, a)

pub first_at : (s : StoreId) (n k : ℕ) (d : Known) → k < n → get_or (first_passes s n) k d
    ≡ new_pass s
    (k + 1)
first_at s zero k d below = absurd (omega (arith, below))
first_at s (suc n) k d below =
    let ps : List Known = first_passes s n in let p : Known = new_pass s (suc n) in
    let e : length ps ≡ n = first_length s n in dite (ℕ_discrete k n)
    (λ (is : k ≡ n). let at : k ≡ length ps + 0 = omega (arith, is, e) in let next : suc n ≡ k + 1 =
    omega (arith, is) in
    ap (λ (j : ℕ). get_or (ps ++ p ∷ []) j d) at ∙ get_or-append-add ps (p ∷ []) 0 d
    ∙ ap (new_pass s) next)
    (λ (other : k ≢ n). let low : k < n = omega (arith, below, other) in
    let inside : k < length ps = omega (arith, low, e) in get_or-append ps (p ∷ []) d k inside
    ∙ first_at s n k d low)

-- those that were dealt
pub all_new : (s : StoreId) → AreAllPasses (new_passes s)
all_new s =
    record { store = s; of_one = first_stores s s.passes; complete = first_numbers s s.passes }

-- one of them did something
pub all_changed : (ps : List Known) (i : ℕ) (q d : Known) → i < length ps
    → IsSamePass (get_or ps i d) q → AreAllPasses ps → AreAllPasses (set ps i q)
all_changed ps i q d l same w = record {
  store = w.store;
  of_one = All-set (λ (p : Known). p.store ≡ w.store) ps i q (same.0 ∙ w.of_one i d l) w.of_one;
  complete = λ n low high. subst (λ (l : List ℕ). Contains l n)
      (sym (map-set_same (λ (p : Known). p.number) ps i q d same.1)) (w.complete n low high);
}

-- they changed places
pub all_shuffled : (ps qs : List Known) → IsPermutation ps qs → AreAllPasses ps → AreAllPasses qs
all_shuffled ps qs moved w = record {
  store = w.store;
  of_one = All-permutation (λ (p : Known). p.store ≡ w.store) ps qs moved w.of_one;
  complete = λ n low high. Contains-permutation (numbers ps) (numbers qs) n
      (IsPermutation-map (λ (p : Known). p.number) ps qs moved) (w.complete n low high);
}

pub all_swapped : (ps qs : List Known) (a b : ℕ) → a < length ps → b < length ps → qs ≡ swap ps a b
    → AreAllPasses ps → AreAllPasses qs
all_swapped ps qs a b l m is = all_shuffled ps qs (IsPermutation-swap ps qs a b l m is)

-- and so they are if none of them pins a version
pub none_held : (ps : List Known) → AreAllPasses ps → AreAllPasses (ps ++ [])
none_held ps = subst AreAllPasses (sym (append-nil ps))

-- what is done to each of them keeps its number and its store
changed_numbers : (f : Known → Known) (ps : List Known) → ((p : Known) → (f p).number ≡ p.number)
    → numbers (map f ps) ≡ numbers ps
changed_numbers f [] same = refl
changed_numbers f (p ∷ ps) same = ap (λ (n : ℕ). n ∷ numbers (map f ps)) (same p)
    ∙ ap (λ (l : List ℕ). p.number ∷ l) (changed_numbers f ps same)

changed_stores : (f : Known → Known) (s : StoreId) (ps : List Known)
    → ((p : Known) → (f p).store ≡ p.store) → All (λ p. p.store ≡ s) ps → All (λ p. p.store ≡ s)
    (map f ps)
changed_stores f s [] same a k d l = absurd (omega arith)
changed_stores f s (p ∷ ps) same a zero d l = same p ∙ a 0 p (omega arith)
changed_stores f s (p ∷ ps) same a (suc k) d l =
    changed_stores f s ps same (λ j e m. a (suc j) e (omega arith)) k d (omega arith)

-- what holds of all of two lines
pub all_of_front : {X : Type 0} (P : X → Type 0) (xs ys : List X) → All P (xs ++ ys) → All P xs
all_of_front P xs ys a = λ k d l. subst P (get_or-append xs ys d k l)
    (a k d (omega (arith, l, length-append xs ys)))

pub all_of_back : {X : Type 0} (P : X → Type 0) (xs ys : List X) → All P (xs ++ ys) → All P ys
all_of_back P xs ys a = λ k d l. subst P (get_or-append-add xs ys k d)
    (a (length xs + k) d (omega (arith, l, length-append xs ys)))

-- they settled
pub all_settled : (ps hs qs ks : List Known) → Settled ps hs qs ks → AreAllPasses (ps ++ hs)
    → AreAllPasses (qs ++ ks)
all_settled ps hs qs ks t w = record {
  store = w.store;
  of_one = All-append (λ (p : Known). p.store ≡ w.store) qs ks
      (subst (All (λ p. p.store ≡ w.store)) (sym t.now)
      (changed_stores (having_seen t.log) w.store ps (λ p. refl)
      (all_of_front (λ (p : Known). p.store ≡ w.store) ps hs w.of_one)))
      (subst (All (λ p. p.store ≡ w.store)) (sym t.still)
      (changed_stores (having_asked 3) w.store hs (λ p. refl)
      (all_of_back (λ (p : Known). p.store ≡ w.store) ps hs w.of_one)));
  complete = λ n low high. subst (λ (l : List ℕ). Contains l n) (sym same) (w.complete n low high);
}
  where
    same : numbers (qs ++ ks) ≡ numbers (ps ++ hs)
    same = numbers-append qs ks ∙ ap (λ (l : List ℕ). l ++ numbers ks)
        (ap numbers t.now ∙ changed_numbers (having_seen t.log) ps (λ p. refl))
        ∙ ap (λ (l : List ℕ). numbers ps ++ l)
        (ap numbers t.still ∙ changed_numbers (having_asked 3) hs (λ p. refl))
        ∙ sym (numbers-append ps hs)
