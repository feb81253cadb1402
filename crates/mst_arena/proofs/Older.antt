-- The versions that are older than the newest live one: in rising order all but the last. What they
-- reach stays held until one of them is no longer live.
use Rattle.mst_arena.proofs.Names.{◌≡◌, ℕ, ◌-◌, ◌<◌, ◌≤◌, Bool, true, false, List, [], ◌∷◌, length, take, get_or, refl, sym, ◌∙◌, ap, arith, nat_lt, ◌&&◌, list_any, IsPermutation, IsNonDecreasing, and_parts, nat_tests, get_or-take, length-take-le, list_any-IsPermutation, Life, reaches_life, is_older, AllReached, AllOlder}
use Rattle.std.specs.List.{Any}
use Rattle.std.proofs.lemmas.List.Folds.{Any-from_list_any, list_any_at}
use Rattle.std.proofs.lemmas.Grind.{get_or_default_zero}

-- if the versions rise, one that is not the newest stands in front of the last
pub older_in_front : (P : ℕ → Bool) (xs : List ℕ) → IsNonDecreasing xs
    → list_any (λ v. P v && is_older xs v) xs ≡ true → list_any P (take (length xs - 1) xs) ≡ true
older_in_front P xs rising e = found (Any-from_list_any (λ v. P v && is_older xs v) xs e)
  where
    later : (k v : ℕ) → k < length xs → get_or xs k 0 ≡ v → Any (λ w. nat_lt v w ≡ true) xs
        → k < length xs - 1
    later k v lt at (j, w, jlt, wat, less) = go (nat_lt k j) refl
      where
        value : get_or xs j 0 ≡ w
        value = sym (get_or_default_zero xs j w jlt) ∙ wat

        go : (t : Bool) → nat_lt k j ≡ t → k < length xs - 1
        go true is = grind (arith, nat_tests)
        go false is =
            let below : get_or xs j 0 ≤ get_or xs k 0 = rising j k 0 (grind (arith, nat_tests)) lt
            in
            let under : v < w = grind (arith, nat_tests) in
            absurd (omega (arith, value, at))

    found : Any (λ v. (P v && is_older xs v) ≡ true) xs → list_any P (take (length xs - 1) xs)
        ≡ true
    found (k, v, lt, at, both) =
        let value : get_or xs k 0 ≡ v = sym (get_or_default_zero xs k v lt) ∙ at in
        let parts = and_parts (P v) (is_older xs v) both in
        let early = later k v lt value (Any-from_list_any (λ w. nat_lt v w) xs parts.1) in
        let read : get_or (take (length xs - 1) xs) k 0 ≡ v =
        get_or-take (length xs - 1) xs k 0 early ∙ value in
        list_any_at P (take (length xs - 1) xs) k 0
        (omega (arith, length-take-le (length xs - 1) xs (omega arith))) (ap P read ∙ parts.0)

-- the order of the versions does not matter
older_ranked : (live ranked : List ℕ) → IsPermutation live ranked → (v : ℕ) → is_older live v
    ≡ is_older ranked v
older_ranked live ranked same v = list_any-IsPermutation (λ w. nat_lt v w) live ranked same

any_same : (P Q : ℕ → Bool) (xs : List ℕ) → ((v : ℕ) → P v ≡ Q v) → list_any P xs ≡ list_any Q xs
any_same P Q [] e = refl
any_same P Q (x ∷ xs) e =
    let here = e x in
    let rest = any_same P Q xs e in
    cc

-- the rows that older live versions reach, by the live versions in rising order
pub held_in_front : (live ranked : List ℕ) (lives : List Life) (held : List ℕ)
    → IsPermutation live ranked → IsNonDecreasing ranked → AllOlder live lives held
    → AllReached (take (length ranked - 1) ranked) lives held
held_in_front live ranked lives held same rising older r x at some =
    older_in_front (reaches_life x) ranked rising
    (sym (any_same (λ v. reaches_life x v && is_older live v)
    (λ v. reaches_life x v && is_older ranked v) ranked
    (λ v. ap (λ (t : Bool). reaches_life x v && t) (older_ranked live ranked same v)))
    ∙ sym (list_any-IsPermutation (λ v. reaches_life x v && is_older live v) live ranked same)
    ∙ older r x at some)
