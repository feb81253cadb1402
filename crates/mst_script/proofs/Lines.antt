-- Two lists of passes that are one list, and one pass among them.
use Rattle.mst_script.proofs.Names.{◌≡◌, ℕ, zero, suc, ◌+◌, ◌<◌, List, [], ◌∷◌, ◌++◌, length, get_or, set, subst, arith, IsPermutation, IsPermutation-refl, IsPermutation-trans, IsPermutation-append_left}
use Rattle.std.proofs.lemmas.List.Sorted.{IsPermutation-cons, IsPermutation-middle, IsPermutation-append_right, IsPermutation-to_front}

-- ---- one of a list, and the others

-- two in front of a list change places
front_two : {X : Type 0} (x y : X) (os : List X) → IsPermutation (x ∷ y ∷ os) (y ∷ x ∷ os)
front_two x y os = IsPermutation-middle (x ∷ []) y os

-- the others are the same whichever stands at this place
pub others_at : {X : Type 0} (xs : List X) (i : ℕ) (p q : X) → i < length xs → get_or xs i p ≡ p
    → (os : List X) × IsPermutation xs (p ∷ os) × IsPermutation (set xs i q) (q ∷ os)
others_at [] i p q l is = absurd (omega arith)
others_at {X} (x ∷ xs) zero p q l is = (
  xs,
  subst (λ (y : X). IsPermutation (x ∷ xs) (y ∷ xs)) is (IsPermutation-refl (x ∷ xs)),
  IsPermutation-refl (q ∷ xs),
)
others_at (x ∷ xs) (suc i) p q l is =
    let r = others_at xs i p q (omega arith) is in (
      x ∷ r.0,
      IsPermutation-trans (x ∷ xs) (x ∷ p ∷ r.0) (p ∷ x ∷ r.0)
          (IsPermutation-cons x xs (p ∷ r.0) r.1) (front_two x p r.0),
      IsPermutation-trans (x ∷ set xs i q) (x ∷ q ∷ r.0) (q ∷ x ∷ r.0)
          (IsPermutation-cons x (set xs i q) (q ∷ r.0) r.2) (front_two x q r.0),
    )

-- one was taken out of the first list and put, changed, after the second
pub moved_back : {X : Type 0} (xs ys rest : List X) (p : X) → IsPermutation xs (p ∷ rest)
    → IsPermutation (xs ++ ys) (p ∷ (rest ++ ys))
moved_back xs ys rest p out = IsPermutation-append_left ys xs (p ∷ rest) out

pub now_back : {X : Type 0} (rest ys : List X) (q : X) → IsPermutation (rest ++ (ys ++ q ∷ []))
    (q ∷ (rest ++ ys))
now_back rest ys q = IsPermutation-trans (rest ++ (ys ++ q ∷ [])) (rest ++ (q ∷ ys))
    (q ∷ (rest ++ ys))
    (IsPermutation-append_right rest (ys ++ q ∷ []) (q ∷ ys) (IsPermutation-to_front ys q))
    (IsPermutation-middle rest q ys)

-- one was taken out of the second list and put after the first
pub moved_front : {X : Type 0} (xs ys rest : List X) (p : X) → IsPermutation ys (p ∷ rest)
    → IsPermutation (xs ++ ys) (p ∷ (xs ++ rest))
moved_front xs ys rest p out = IsPermutation-trans (xs ++ ys) (xs ++ (p ∷ rest)) (p ∷ (xs ++ rest))
    (IsPermutation-append_right xs ys (p ∷ rest) out) (IsPermutation-middle xs p rest)

pub now_front : {X : Type 0} (xs rest : List X) (p : X) → IsPermutation ((xs ++ p ∷ []) ++ rest)
    (p ∷ (xs ++ rest))
now_front xs rest p = IsPermutation-append_left rest (xs ++ p ∷ []) (p ∷ xs)
    (IsPermutation-to_front xs p)
