-- All passes of one store: so they are when they are dealt, and so they stay.
use Rattle.mst_script.proofs.Names.{◌≡◌, ℕ, zero, suc, List, [], ◌∷◌, ◌++◌, append-nil, map, sym, refl, ap, ◌∙◌, subst, arith, All, Contains, IsPermutation, All-append, All-cons, All-head, All-tail, All-map, IsPermutation-map, IsPermutation-sym, All-permutation, Contains-permutation, History, StoreId, Known, having_asked, new_passes, numbers, having_seen, AreAllPasses, Settled, numbers-append, all_of_front, all_of_back, AreAllOf, Roster, everyone}
use Rattle.mst_store.specs.Passes.{IsSamePass, new_pass, first_passes}
use Rattle.mst_store.proofs.AllPasses.{first_stores, first_numbers}

lone_mine : (p : Known) → p.mine ≡ [] → All (λ q. q.mine ≡ []) (p ∷ [])
lone_mine p is zero d l = is
lone_mine p is (suc k) d l = absurd (omega arith)

first_mine : (s : StoreId) (n : ℕ) → All (λ p. p.mine ≡ []) (first_passes s n)
first_mine s zero k d l = absurd (omega arith)
first_mine s (suc n) k d l = All-append (λ (p : Known). p.mine ≡ []) (first_passes s n)
    (new_pass s (suc n) ∷ []) (first_mine s n) (lone_mine (new_pass s (suc n)) refl) k d l

-- passes that were dealt have done nothing
pub none_done : (s : StoreId) → All (λ p. p.mine ≡ []) (new_passes s)
none_done s = first_mine s s.passes

-- those that were dealt
pub all_dealt : (s : StoreId) → AreAllOf s (new_passes s)
all_dealt s = record { of_one = first_stores s s.passes; complete = first_numbers s s.passes }

pub all_of : (s : StoreId) (ps : List Known) → ps ≡ new_passes s → AreAllOf s ps
all_of s ps is = subst (AreAllOf s) (sym is) (all_dealt s)

pub all_passes : (s : StoreId) (r : Roster) → AreAllOf s (everyone r) → AreAllPasses (everyone r)
all_passes s r w = record { store = s; of_one = w.of_one; complete = w.complete }

-- in another order
pub all_moved : (s : StoreId) (ps qs : List Known) → IsPermutation ps qs → AreAllOf s ps
    → AreAllOf s qs
all_moved s ps qs moved w = record {
  of_one = All-permutation (λ (p : Known). p.store ≡ s) ps qs moved w.of_one;
  complete = λ n low high. Contains-permutation (numbers ps) (numbers qs) n
      (IsPermutation-map (λ (p : Known). p.number) ps qs moved) (w.complete n low high);
}

-- one of them did something
first_changed : (s : StoreId) (p q : Known) (os : List Known) → IsSamePass p q → AreAllOf s (p ∷ os)
    → AreAllOf s (q ∷ os)
first_changed s p q os same w = record {
  of_one = All-cons (λ (x : Known). x.store ≡ s) q os
      (same.0 ∙ All-head (λ (x : Known). x.store ≡ s) p os w.of_one)
      (All-tail (λ (x : Known). x.store ≡ s) p os w.of_one);
  complete = λ n low high. subst (λ (k : ℕ). Contains (k ∷ numbers os) n) (sym same.1)
      (w.complete n low high);
}

pub all_changed : (s : StoreId) (ps qs os : List Known) (p q : Known) → IsPermutation ps (p ∷ os)
    → IsPermutation qs (q ∷ os) → IsSamePass p q → AreAllOf s ps → AreAllOf s qs
all_changed s ps qs os p q from to same w =
    all_moved s (q ∷ os) qs (IsPermutation-sym qs (q ∷ os) to)
    (first_changed s p q os same (all_moved s ps (p ∷ os) from w))

pub seen_numbers : (log : History) (ps : List Known) → numbers (map (having_seen log) ps) ≡ numbers
    ps
seen_numbers log [] = refl
seen_numbers log (p ∷ ps) = ap (λ (l : List ℕ). p.number ∷ l) (seen_numbers log ps)

pub asked_numbers : (n : ℕ) (ps : List Known) → numbers (map (having_asked n) ps) ≡ numbers ps
asked_numbers n [] = refl
asked_numbers n (p ∷ ps) = ap (λ (l : List ℕ). p.number ∷ l) (asked_numbers n ps)

pub settled_numbers : (ps hs qs ks : List Known) → (t : Settled ps hs qs ks) → numbers (qs ++ ks)
    ≡ numbers (ps ++ hs)
settled_numbers ps hs qs ks t = numbers-append qs ks ∙ ap (λ (l : List ℕ). l ++ numbers ks)
    (ap numbers t.now ∙ seen_numbers t.log ps)
    ∙ ap (λ (l : List ℕ). numbers ps ++ l) (ap numbers t.still ∙ asked_numbers 3 hs)
    ∙ sym (numbers-append ps hs)

-- they settled
pub all_settled : (s : StoreId) (r t : Roster) → Settled r.free r.pinned t.free t.pinned
    → AreAllOf s (everyone r) → AreAllOf s (everyone t)
all_settled s r t st w = record {
  of_one = All-append (λ (p : Known). p.store ≡ s) t.free t.pinned
      (subst (All (λ p. p.store ≡ s)) (sym st.now)
      (All-map (λ (p : Known). p.store ≡ s) (having_seen st.log) r.free
      (all_of_front (λ (p : Known). p.store ≡ s) r.free r.pinned w.of_one)))
      (subst (All (λ p. p.store ≡ s)) (sym st.still)
      (All-map (λ (p : Known). p.store ≡ s) (having_asked 3) r.pinned
      (all_of_back (λ (p : Known). p.store ≡ s) r.free r.pinned w.of_one)));
  complete = λ n low high. subst (λ (l : List ℕ). Contains l n)
      (sym (settled_numbers r.free r.pinned t.free t.pinned st)) (w.complete n low high);
}

-- where no one of them pins a version
pub all_free : (s : StoreId) (r : Roster) → r.pinned ≡ [] → AreAllOf s (everyone r)
    → AreAllOf s r.free
all_free s r none w =
    subst (AreAllOf s) (ap (λ (l : List Known). r.free ++ l) none ∙ append-nil r.free) w

pub all_free_again : (s : StoreId) (r : Roster) → r.pinned ≡ [] → AreAllOf s r.free
    → AreAllOf s (everyone r)
all_free_again s r none w =
    subst (AreAllOf s) (sym (ap (λ (l : List Known). r.free ++ l) none ∙ append-nil r.free)) w
