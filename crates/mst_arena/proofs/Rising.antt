-- Which of some rising versions reach a dead row: the first that is not below its birth decides.
use Rattle.mst_arena.proofs.Names.{◌≡◌, ℕ, zero, suc, ◌<◌, ◌≤◌, Bool, true, false, List, [], ◌∷◌, length, map, get_or, refl, arith, nat_le, nat_lt, ◌&&◌, list_any, IsNonDecreasing, IsPermutation, nat_tests, list_any-IsPermutation, Life, Free, Born, Dead, swept_life, reaches_life}
use Rattle.std.specs.List.Sorted.{IsPartitionPoint}
use Rattle.mst_arena.specs.Lists.{IsLowest}

-- a version from the birth to before the death
abbrev within : ℕ → ℕ → ℕ → Bool
within b d v = nat_le b v && nat_lt v d

none_after : (b d : ℕ) (xs : List ℕ) → ((j : ℕ) → j < length xs → d ≤ get_or xs j 0)
    → list_any (within b d) xs ≡ false
none_after b d [] after = refl
none_after b d (x ∷ xs) after =
    let here : d ≤ x = after 0 (omega arith) in
    let e : within b d x ≡ false = grind (arith, nat_tests) in
    rw e (none_after b d xs (λ j lt. after (suc j) (omega arith)))

decides : (b d : ℕ) (xs : List ℕ) (i : ℕ) → i ≤ length xs → ((j : ℕ) → j < i → get_or xs j 0 < b)
    → ((j : ℕ) → i ≤ j → j < length xs → b ≤ get_or xs j 0)
    → ((j : ℕ) → i ≤ j → j < length xs → get_or xs i 0 ≤ get_or xs j 0)
    → (nat_lt i (length xs) && nat_lt (get_or xs i 0) d) ≡ list_any (within b d) xs
decides b d [] i le below from rise = let e : nat_lt i 0 ≡ false = grind (arith, nat_tests) in rw e
decides b d (x ∷ xs) zero le below from rise = go (nat_lt x d) refl
  where
    go : (t : Bool) → nat_lt x d ≡ t → (nat_lt 0 (length (x ∷ xs)) && t) ≡ list_any (within b d)
        (x ∷ xs)
    go true e =
        let birth : b ≤ x = from 0 (omega arith) (omega arith) in
        let has : within b d x ≡ true = grind (arith, nat_tests) in
        let some : nat_lt 0 (length (x ∷ xs)) ≡ true = grind (arith, nat_tests) in
        rw (has, some)
    go false e =
        let none : list_any (within b d) (x ∷ xs) ≡ false =
        none_after b d (x ∷ xs) (λ j lt. let le : x ≤ get_or (x ∷ xs) j 0 =
        rise j (omega arith) lt in let late : d ≤ x = grind (arith, nat_tests) in omega arith)
        in
        let some : nat_lt 0 (length (x ∷ xs)) ≡ true = grind (arith, nat_tests) in
        rw (some, none)
decides b d (x ∷ xs) (suc i) le below from rise =
    let early : x < b = below 0 (omega arith) in
    let not_here : within b d x ≡ false = grind (arith, nat_tests) in
    let same : nat_lt (suc i) (length (x ∷ xs)) ≡ nat_lt i (length xs) = grind (arith, nat_tests) in
    rw (not_here, same) (decides b d xs i (omega arith) (λ j lt. below (suc j) (omega arith))
    (λ j le lt. from (suc j) (omega arith) (omega arith))
    (λ j le lt. rise (suc j) (omega arith) (omega arith)))

-- `i` is the number of the versions below the birth
pub first_decides : (b d : ℕ) (xs : List ℕ) (i : ℕ) → IsNonDecreasing xs → i ≤ length xs
    → IsPartitionPoint (λ v. nat_lt v b ≡ true) (λ v. nat_lt v b ≡ false) xs i
    → (nat_lt i (length xs) && nat_lt (get_or xs i 0) d) ≡ list_any (within b d) xs
first_decides b d xs i rising le point =
    decides b d xs i le
    (λ j lt. let e = point.0 j 0 (omega arith) lt in grind (arith, nat_tests))
    (λ j le lt. let e = point.1 j 0 le lt in grind (arith, nat_tests))
    (λ j le lt. rising i j 0 le lt)

-- a version that is not above the lowest one
pub none_reached : (b d n : ℕ) (live : List ℕ) → IsLowest n live → d ≤ n
    → list_any (reaches_life (Dead b d)) live ≡ false
none_reached b d n live lowest le = none_after b d live (λ j lt. omega (arith, lowest j lt, le))

-- the order of the live versions does not matter
pub swept_ranked : (live ranked : List ℕ) → IsPermutation live ranked → (x : Life)
    → swept_life ranked x ≡ swept_life live x
swept_ranked live ranked same Free = refl
swept_ranked live ranked same (Born b) = refl
swept_ranked live ranked same (Dead b d) =
    rw (list_any-IsPermutation (reaches_life (Dead b d)) live ranked same)

pub all_swept_ranked : (live ranked : List ℕ) → IsPermutation live ranked → (xs : List Life)
    → map (swept_life ranked) xs ≡ map (swept_life live) xs
all_swept_ranked live ranked same [] = refl
all_swept_ranked live ranked same (x ∷ xs) =
    let here = swept_ranked live ranked same x in
    let rest = all_swept_ranked live ranked same xs in
    cc
