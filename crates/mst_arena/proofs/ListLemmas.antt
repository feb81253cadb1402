-- Lists that have each row of a kind once.
use Rattle.mst_arena.proofs.Names.{◌≡◌, ℕ, zero, suc, ◌+◌, ◌<◌, ◌≤◌, ◌⊎◌, inl, inr, Bool, true, false, cond, eqb, List, [], ◌∷◌, ◌++◌, length, map, Some, refl, sym, ◌∙◌, ap, arith, slice_get, slice_set, list_any, AllByRecursion, nat_tests, Life, Free, Born, Dead, swept_life, reaches_life, In, is_at, times, Lists}
use Rattle.std.specs.List.{IsDistinct}
use Rattle.std.proofs.lemmas.Map.Steps.{length-le_from_distinct_below}
use Rattle.mst_arena.specs.Lists.{bit}

pub suc_test : (k r : ℕ) → eqb (suc k) (suc r) ≡ eqb k r
suc_test k r = grind (arith, nat_tests)

pub get-set : (lives : List Life) (r k : ℕ) (x y : Life) → slice_get lives r ≡ Some x
    → slice_get (slice_set lives r y) k ≡ cond (eqb k r) (Some y) (slice_get lives k)
get-set [] r k x y at = cc
get-set (l ∷ ls) zero zero x y at = refl
get-set (l ∷ ls) zero (suc k) x y at = let e : eqb (suc k) zero ≡ false =
    grind (arith, nat_tests) in rw e
get-set (l ∷ ls) (suc r) zero x y at = let e : eqb zero (suc r) ≡ false =
    grind (arith, nat_tests) in rw e
get-set (l ∷ ls) (suc r) (suc k) x y at = let e : eqb (suc k) (suc r) ≡ eqb k r =
    suc_test k r in rw e (get-set ls r k x y at)

pub times-append : (k : ℕ) (xs ys : List ℕ) → times k (xs ++ ys) ≡ times k xs + times k ys
times-append k [] ys = omega arith
times-append k (x ∷ xs) ys = omega (arith, times-append k xs ys)

-- a row changes its life, and the list follows
pub lists_move : (is : Life → Bool) (lives : List Life) (r : ℕ) (x y : Life) (old new : List ℕ)
    → slice_get lives r ≡ Some x → Lists is lives old
    → ((k : ℕ) → times k new + cond (eqb k r) (bit (is x)) 0 ≡ times k old + cond (eqb k r)
    (bit (is y)) 0) → Lists is (slice_set lives r y) new
lists_move is lives r x y old new at lists moves k =
    go (eqb k r) refl (moves k) (get-set lives r k x y at)
  where
    go : (t : Bool) → eqb k r ≡ t → times k new + cond t (bit (is x)) 0 ≡ times k old + cond t
        (bit (is y)) 0 → slice_get (slice_set lives r y) k ≡ cond t (Some y) (slice_get lives k)
        → times k new ≡ bit (is_at is (slice_get (slice_set lives r y) k))
    go true e move got =
        let same : k ≡ r = grind (arith, nat_tests) in
        let before : times k old ≡ bit (is x) =
        lists k ∙ ap (λ (j : ℕ). bit (is_at is (slice_get lives j))) same
        ∙ ap (λ o. bit (is_at is o)) at in
        let now : times k new ≡ bit (is y) = omega arith in
        now ∙ sym (ap (λ o. bit (is_at is o)) got)
    go false e move got =
        let now : times k new ≡ times k old = omega arith in
        now ∙ lists k ∙ sym (ap (λ o. bit (is_at is o)) got)

pub count_one : (k r : ℕ) → times k (r ∷ []) ≡ cond {A = ℕ} (eqb k r) 1 0
count_one k r = go (eqb k r)
  where
    go : (t : Bool) → bit t + 0 ≡ cond {A = ℕ} t 1 0
    go true = omega arith
    go false = omega arith

-- a row leaves the list, from between two parts of it
pub lists_leave : (is : Life → Bool) (lives : List Life) (r : ℕ) (x y : Life) (xs ys : List ℕ)
    → slice_get lives r ≡ Some x → is x ≡ true → is y ≡ false
    → Lists is lives ((xs ++ r ∷ []) ++ ys) → Lists is (slice_set lives r y) (xs ++ ys)
lists_leave is lives r x y xs ys at was will lists =
    lists_move is lives r x y ((xs ++ r ∷ []) ++ ys) (xs ++ ys) at lists (λ k.
    let a = times-append k (xs ++ r ∷ []) ys in
    let b = times-append k xs (r ∷ []) in
    let d = times-append k xs ys in
    go (eqb k r) (times k (xs ++ ys)) (times k ((xs ++ r ∷ []) ++ ys))
    (omega (arith, a, b, d, count_one k r)))
  where
    go : (t : Bool) (n m : ℕ) → m ≡ n + cond t 1 0 → n + cond t (bit (is x)) 0 ≡ m + cond t
        (bit (is y)) 0
    go true n m e = rw (was, will) (omega arith)
    go false n m e = omega arith

-- a row is added at the end of the list
pub lists_come : (is : Life → Bool) (lives : List Life) (r : ℕ) (x y : Life) (xs : List ℕ)
    → slice_get lives r ≡ Some x → is x ≡ false → is y ≡ true → Lists is lives xs
    → Lists is (slice_set lives r y) (xs ++ r ∷ [])
lists_come is lives r x y xs at was will lists = lists_move is lives r x y xs (xs ++ r ∷ []) at
    lists (λ k.
    let b = times-append k xs (r ∷ []) in
    go (eqb k r) (times k (xs ++ r ∷ [])) (times k xs) (omega (arith, b, count_one k r)))
  where
    go : (t : Bool) (n m : ℕ) → n ≡ m + cond t 1 0 → n + cond t (bit (is x)) 0 ≡ m + cond t
        (bit (is y)) 0
    go true n m e = rw (was, will) (omega arith)
    go false n m e = omega arith

-- a row stays out of the list, or in it
pub lists_stay : (is : Life → Bool) (lives : List Life) (r : ℕ) (x y : Life) (xs : List ℕ)
    → slice_get lives r ≡ Some x → is x ≡ is y → Lists is lives xs → Lists is (slice_set lives r y)
    xs
lists_stay is lives r x y xs at same lists = lists_move is lives r x y xs xs at lists (λ k. rw same)

-- the order does not matter
pub lists_turn : (is : Life → Bool) (lives : List Life) (r : ℕ) (xs ys : List ℕ)
    → Lists is lives ((xs ++ r ∷ []) ++ ys) → Lists is lives (xs ++ (ys ++ r ∷ []))
lists_turn is lives r xs ys lists k =
    let a = times-append k (xs ++ r ∷ []) ys in
    let b = times-append k xs (r ∷ []) in
    let d = times-append k xs (ys ++ r ∷ []) in
    let e = times-append k ys (r ∷ []) in
    let same : times k (xs ++ (ys ++ r ∷ [])) ≡ times k ((xs ++ r ∷ []) ++ ys) =
    omega (arith, a, b, d, e) in
    same ∙ lists k

-- ---- there is room for one more

none_of : (x : ℕ) (xs : List ℕ) → times x xs ≡ 0 → AllByRecursion (λ y. eqb x y ≡ false) xs
none_of x [] e = tt
none_of x (y ∷ ys) e = go (eqb x y) refl e (none_of x ys)
  where
    go : (t : Bool) → eqb x y ≡ t → bit t + times x ys ≡ 0
        → (times x ys ≡ 0 → AllByRecursion (λ y. eqb x y ≡ false) ys)
        → AllByRecursion (λ y. eqb x y ≡ false) (y ∷ ys)
    go true t e more = absurd (omega arith)
    go false t e more = (t, more (omega arith))

same_test : (x : ℕ) → eqb x x ≡ true
same_test x = grind (arith, nat_tests)

distinct_of : (xs : List ℕ) → ((r : ℕ) → times r xs ≤ 1) → IsDistinct eqb xs
unfolding IsDistinct
distinct_of [] once = tt
distinct_of (x ∷ xs) once =
    let here : bit (eqb x x) + times x xs ≤ 1 = once x in
    let one : bit (eqb x x) ≡ 1 = ap bit (same_test x) in (
      none_of x xs (omega arith),
      distinct_of xs (λ r. let more : bit (eqb r x) + times r xs ≤ 1 =
          once r in omega arith),
    )

pub any_times : (r : ℕ) (xs : List ℕ) → list_any (eqb r) xs ≡ true → In r xs
any_times r [] has = cc
any_times r (x ∷ xs) has = go (eqb r x) refl has (any_times r xs)
  where
    go : (t : Bool) → eqb r x ≡ t → list_any (eqb r) (x ∷ xs) ≡ true
        → (list_any (eqb r) xs ≡ true → 0 < times r xs) → 0 < bit t + times r xs
    go true t has more = omega arith
    go false t has more = omega (arith, more (rw t at has))

pub there : (is : Life → Bool) (lives : List Life) (r : ℕ) → 0 < bit (is_at is (slice_get lives r))
    → r < length lives
there is [] r lt = absurd (omega arith)
there is (l ∷ ls) zero lt = omega arith
there is (l ∷ ls) (suc r) lt = omega (arith, there is ls r lt)

bit_le : (b : Bool) → bit b ≤ 1
bit_le true = omega arith
bit_le false = omega arith

-- a list of rows is no longer than the rows
pub lists_room : (is : Life → Bool) (lives : List Life) (xs : List ℕ) → Lists is lives xs
    → length xs ≤ length lives
lists_room is lives xs lists = length-le_from_distinct_below xs (length lives)
    (distinct_of xs (λ r. omega (arith, lists r, bit_le (is_at is (slice_get lives r)))))
    (λ r has. there is lives r (omega (arith, lists r, any_times r xs has)))

-- ---- a sweep

pub swept_twice : (live : List ℕ) (x : Life) → swept_life live (swept_life live x) ≡ swept_life live
    x
swept_twice live Free = refl
swept_twice live (Born b) = refl
swept_twice live (Dead b d) = go (list_any (reaches_life (Dead b d)) live) refl
  where
    go : (t : Bool) → list_any (reaches_life (Dead b d)) live ≡ t → swept_life live
        (cond t (Dead b d) Free) ≡ cond t (Dead b d) Free
    go true e = rw e
    go false e = refl

-- a row that a sweep frees can be freed first
pub swept_after : (live : List ℕ) (lives : List Life) (r : ℕ) (x y : Life) → slice_get lives r
    ≡ Some x → swept_life live x ≡ y → map (swept_life live) (slice_set lives r y) ≡ map
    (swept_life live) lives
swept_after live [] r x y at is = cc
swept_after live (l ∷ ls) zero x y at is =
    let e : l ≡ x = cc in
    let s : swept_life live y ≡ swept_life live l = ap (swept_life live) (sym is)
    ∙ swept_twice live x ∙ ap (swept_life live) (sym e) in
    ap (λ z. z ∷ map (swept_life live) ls) s
swept_after live (l ∷ ls) (suc r) x y at is =
    ap (λ zs. swept_life live l ∷ zs) (swept_after live ls r x y at is)

-- a row of two lists stands in one of them, and that of a list of one row is this row
pub in_either : (r : ℕ) (xs ys : List ℕ) → In r (xs ++ ys) → In r xs ⊎ In r ys
in_either r xs ys is = go (times r xs) refl
  where
    go : (n : ℕ) → times r xs ≡ n → In r xs ⊎ In r ys
    go zero e = inr (omega (arith, is, times-append r xs ys))
    go (suc n) e = inl (omega (arith, e))

pub one_row : (k r : ℕ) → In k (r ∷ []) → k ≡ r
one_row k r is = go (eqb k r) refl is
  where
    go : (t : Bool) → eqb k r ≡ t → 0 < bit t + 0 → k ≡ r
    go true e some = grind (arith, nat_tests)
    go false e some = absurd (omega arith)
