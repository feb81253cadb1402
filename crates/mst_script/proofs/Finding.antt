-- Passes looked for by their number, and passes that are freed one after another.
use Rattle.mst_script.proofs.Names.{◌≡◌, ◌≢◌, ℕ, ◌+◌, ◌<◌, ◌≤◌, List, [], ◌∷◌, ◌++◌, length, get_or, set, zero, suc, sym, refl, ap, ◌∙◌, subst, arith, Contains, IsPermutation, All-append, All-map, All-contains, IsPermutation-sym, IsPermutation-trans, dite, ℕ_discrete, Known, numbers, Roster, everyone, IsPlace, IsNowhere}
use Rattle.std.proofs.Common.{slice_index_or}
use Rattle.std.proofs.lemmas.List.Elements.{at_read}
use Rattle.mst_script.proofs.Lines.{now_back, now_front}

-- some pass has the number
pub not_there : (r : Roster) (n : ℕ) → Contains (numbers (everyone r)) n → IsNowhere r.free n
    → IsNowhere r.pinned n → ⊥
not_there r n has a b =
    All-contains (λ (m : ℕ). m ≢ n) (numbers (everyone r)) n
    (All-map (λ (m : ℕ). m ≢ n) (λ (p : Known). p.number) (everyone r)
    (All-append (λ (p : Known). p.number ≢ n) r.free r.pinned a b)) has refl

-- none of the first passes has the number
abbrev pub IsNotYet : List Known → ℕ → ℕ → Type 0
IsNotYet ps place n = (k : ℕ) (d : Known) → k < place → (slice_index_or ps k d).number ≢ n

pub not_yet : (ps : List Known) (place n : ℕ) (p : Known) → IsNotYet ps place n → place < length ps
    → p ≡ slice_index_or ps place p → p.number ≢ n → IsNotYet ps (place + 1) n
not_yet ps place n p none l is other k d below = dite (ℕ_discrete k place)
    (λ (here : k ≡ place). subst (λ (i : ℕ). (slice_index_or ps i d).number ≢ n) (sym here)
    (at_read ps (λ (x : Known). x.number ≢ n) place p l is other d))
    (λ (before : k ≢ place). none k d (omega (arith, below, before)))

pub nowhere : (ps qs : List Known) (place n : ℕ) → IsNotYet ps place n → length ps ≤ place → ps ≡ qs
    → IsNowhere qs n
nowhere ps qs place n none end same = subst (λ (xs : List Known). IsNowhere xs n) same
    (λ k d l. none k d (omega (arith, l, end)))

pub found_at : (ps qs : List Known) (place n : ℕ) (p : Known) → place < length ps
    → p ≡ slice_index_or ps place p → p.number ≡ n → ps ≡ qs → IsPlace qs n place
found_at ps qs place n p l is e same = subst (λ (xs : List Known). IsPlace xs n place) same
    (l, at_read ps (λ (x : Known). x.number ≡ n) place p l is e)

-- the last of those with a pin is now the last of the free ones
pub one_freed : (all free pinned now rest : List Known) (p q : Known) → IsPermutation all
    (free ++ pinned) → pinned ≡ rest ++ p ∷ [] → now ≡ free ++ q ∷ [] → q ≡ p → IsPermutation all
    (now ++ rest)
one_freed all free pinned now rest p q moved out put same =
    let before : IsPermutation all (p ∷ (free ++ rest)) =
    IsPermutation-trans all (free ++ (rest ++ p ∷ [])) (p ∷ (free ++ rest))
    (subst (λ (l : List Known). IsPermutation all (free ++ l)) out moved) (now_back free rest p)
    in
    subst (λ (l : List Known). IsPermutation all (l ++ rest))
    (sym (put ∙ ap (λ (x : Known). free ++ x ∷ []) same))
    (IsPermutation-trans all (p ∷ (free ++ rest)) ((free ++ p ∷ []) ++ rest) before
    (IsPermutation-sym ((free ++ p ∷ []) ++ rest) (p ∷ (free ++ rest)) (now_front free rest p)))

-- the pass at a place
pub stands_at : (ps qs : List Known) (place : ℕ) (p : Known) → place < length ps
    → p ≡ slice_index_or ps place p → ps ≡ qs → (d : Known) → slice_index_or qs place d ≡ p
stands_at ps qs place p l is same =
    subst (λ (xs : List Known). (d : Known) → slice_index_or xs place d ≡ p) same
    (at_read ps (λ (x : Known). x ≡ p) place p l is refl)

-- nothing changed at a place
pub set_same : (ps : List Known) (place : ℕ) (p : Known) → place < length ps → p ≡ get_or ps place p
    → set ps place p ≡ ps
set_same [] place p l is = absurd (omega (arith, l))
set_same (x ∷ ps) zero p l is = ap (λ (y : Known). y ∷ ps) is
set_same (x ∷ ps) (suc place) p l is =
    ap (λ (xs : List Known). x ∷ xs) (set_same ps place p (omega (arith, l)) is)
