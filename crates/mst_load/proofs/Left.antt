-- The map that the calls of the writers leave, pair by pair.
use Rattle.mst_load.proofs.Names.{◌≡◌, ◌≢◌, ℕ, zero, suc, ◌+◌, ◌-◌, ◌%◌, ◌<◌, ◌≤◌, ◌==◌, List, [], ◌∷◌, ◌++◌, Option, Some, None, refl, sym, ap, ◌∙◌, eq-eqb, ne_eqb, arith, AllByRecursion, cond-true, append-nil, Less, dite, ℕ_discrete, alls-append, after-append, key_cmp-first_byte, equal_from_same, after_from, after, Pair, key_cmp, AllAbove, key_of, value_of, event_of, calls_of, all_calls, round_left}
use Rattle.std.proofs.Common.{append_assoc}
use Rattle.std.proofs.lemmas.Bool.{cond-false}
use Rattle.mst_key.proofs.HistoryLaws.{after_from-append}
use Rattle.mst_key.proofs.Splits.{put-right, put-left, put-first}
use Rattle.mst_key.specs.Map.{AllBelow, put}
use Rattle.mst_load.specs.Calls.{map_left, last, pair_left}

-- ---- the last call at a place

last_here : (place n : ℕ) → suc n % 32 ≡ place → last place (suc n) ≡ Some (suc n)
last_here place n is = cond-true (suc n % 32 == place) (Some (suc n)) (last place n)
    (eq-eqb (suc n % 32) place is)

last_before : (place n : ℕ) → suc n % 32 ≢ place → last place (suc n) ≡ last place n
last_before place n other = cond-false (suc n % 32 == place) (Some (suc n)) (last place n)
    (ne_eqb (suc n % 32) place other)

last_at : (place n call : ℕ) → last place n ≡ Some call → call % 32 ≡ place
last_at place zero call is = absurd (cc)
last_at place (suc n) call is = dite (ℕ_discrete (suc n % 32) place)
    (λ (here : suc n % 32 ≡ place). let same : suc n ≡ call =
    some_same (sym (last_here place n here) ∙ is) in ap (λ (k : ℕ). k % 32) (sym same) ∙ here)
    (λ (other : suc n % 32 ≢ place). last_at place n call (sym (last_before place n other) ∙ is))
  where
    some_same : {x y : ℕ} → Some x ≡ Some y → x ≡ y
    some_same e = cc

pub last_some : (place n late : ℕ) → place < 32 → late ≡ (n % 32 + 32 - place) % 32 → late < n
    → last place n ≡ Some (n - late)
last_some place zero late low is below = absurd (omega (arith, below))
last_some place (suc n) late low is below = dite (ℕ_discrete (suc n % 32) place)
    (λ (here : suc n % 32 ≡ place). let none : suc n ≡ suc n - late =
    omega (arith, here, is, low) in last_here place n here ∙ ap (λ (k : ℕ). Some k) none)
    (λ (other : suc n % 32 ≢ place).
    let less : late - 1 ≡ (n % 32 + 32 - place) % 32 = omega (arith, other, is, low) in
    let some : 0 < late = omega (arith, other, is, low) in
    let still : late - 1 < n = omega (arith, below, some) in
    let same : n - (late - 1) ≡ suc n - late = omega (arith, some, below) in
    last_before place n other ∙ last_some place n (late - 1) low less still ∙ ap (λ (k : ℕ). Some k)
    same)

pub last_none : (place n late : ℕ) → place < 32 → late ≡ (n % 32 + 32 - place) % 32 → n ≤ late
    → last place n ≡ None
last_none place zero late low is high = refl
last_none place (suc n) late low is high = dite (ℕ_discrete (suc n % 32) place)
    (λ (here : suc n % 32 ≡ place). absurd (omega (arith, here, is, low, high)))
    (λ (other : suc n % 32 ≢ place).
    let less : late - 1 ≡ (n % 32 + 32 - place) % 32 = omega (arith, other, is, low) in
    let still : n ≤ late - 1 = omega (arith, high) in
    last_before place n other ∙ last_none place n (late - 1) low less still)

-- ---- the pairs of one writer

pair_all : (P : Pair → Type 0) (w : ℕ) (o : Option ℕ)
    → ((call : ℕ) → o ≡ Some call → P (key_of w call, value_of call)) → AllByRecursion P
    (pair_left w o)
pair_all P w None each = tt
pair_all P w (Some call) each = (each call refl, tt)

round_below : (w n p c : ℕ) → p ≤ c → AllBelow (round_left w n p) (w ∷ c ∷ [])
round_below w n zero c low = tt
round_below w n (suc p) c low =
    alls-append (λ (q : Pair). key_cmp q.0 (w ∷ c ∷ []) ≡ Less) (round_left w n p)
    (pair_left w (last p n)) (round_below w n p c (omega (arith, low)))
    (pair_all (λ (q : Pair). key_cmp q.0 (w ∷ c ∷ []) ≡ Less) w (last p n)
    (λ call is. let at : call % 32 ≡ p = last_at p n call is in key_cmp-first_byte (w ∷ [])
    (call % 32) c [] [] (omega (arith, at, low))))

pair_above : (w n p c : ℕ) → c < p → AllAbove (pair_left w (last p n)) (w ∷ c ∷ [])
pair_above w n p c low = pair_all (λ (q : Pair). key_cmp (w ∷ c ∷ []) q.0 ≡ Less) w (last p n)
    (λ call is. let at : call % 32 ≡ p = last_at p n call is in key_cmp-first_byte (w ∷ []) c
    (call % 32) [] [] (omega (arith, at, low)))

-- before the first call there are none
round_none : (w p : ℕ) → round_left w 0 p ≡ []
round_none w zero = refl
round_none w (suc p) = ap (λ (m : List Pair). m ++ []) (round_none w p)

-- a call changes no place before its own
round_same : (w n p : ℕ) → p ≤ suc n % 32 → round_left w (suc n) p ≡ round_left w n p
round_same w n zero low = refl
round_same w n (suc p) low =
    let other : suc n % 32 ≢ p = λ e. omega (arith, e, low) in
    (λ i. round_same w n p (omega (arith, low)) i ++ pair_left w (last_before p n other i))

-- at its own place it takes the place of the call before
put_pair : (w c : ℕ) (v : List ℕ) (o : Option ℕ) → ((call : ℕ) → o ≡ Some call → call % 32 ≡ c)
    → put (pair_left w o) (w ∷ c ∷ []) v ≡ (w ∷ c ∷ [], v) ∷ []
put_pair w c v None each = refl
put_pair w c v (Some call) each =
    put-first [] (w ∷ c ∷ []) (key_of w call) v (value_of call)
    (equal_from_same (key_of w call) (w ∷ c ∷ []) (ap (λ (k : ℕ). w ∷ k ∷ []) (each call refl)))
    tt

put_round : (w n p : ℕ) → suc n % 32 < p → put (round_left w n p) (key_of w (suc n))
    (value_of (suc n)) ≡ round_left w (suc n) p
put_round w n zero low = absurd (omega (arith, low))
put_round w n (suc p) low =
    let k : List ℕ = key_of w (suc n) in let v : List ℕ = value_of (suc n) in
    let front : List Pair = round_left w n p in let here : List Pair = pair_left w (last p n) in
    dite (ℕ_discrete (suc n % 32) p)
    (λ (at : suc n % 32 ≡ p).
    let low_front : p ≤ suc n % 32 = omega (arith, at) in
    put-right front here k v (round_below w n p (suc n % 32) low_front)
    ∙ ap (λ (m : List Pair). front ++ m)
    (put_pair w (suc n % 32) v (last p n) (λ call is. last_at p n call is ∙ sym at))
    ∙ (λ i. sym (round_same w n p low_front) i ++ pair_left w (sym (last_here p n at) i)))
    (λ (other : suc n % 32 ≢ p).
    let below : suc n % 32 < p = omega (arith, low, other) in
    put-left front here k v (pair_above w n p (suc n % 32) below)
    ∙ (λ i. put_round w n p below i ++ pair_left w (sym (last_before p n other) i)))

-- all calls of a writer after pairs whose keys are below all of its own
writer_left : (front : List Pair) (w n : ℕ) → ((c : ℕ) → AllBelow front (w ∷ c ∷ []))
    → after_from front (calls_of w n) ≡ front ++ round_left w n 32
writer_left front w zero below = sym (append-nil front) ∙ ap (λ (m : List Pair). front ++ m)
    (sym (round_none w 32))
writer_left front w (suc n) below =
    let k : List ℕ = key_of w (suc n) in let v : List ℕ = value_of (suc n) in
    let inside : suc n % 32 < 32 = omega arith in
    after_from-append front (calls_of w n) (event_of w (suc n) ∷ [])
    ∙ ap (λ (m : List Pair). put m k v) (writer_left front w n below)
    ∙ put-right front (round_left w n 32) k v (below (suc n % 32))
    ∙ ap (λ (m : List Pair). front ++ m) (put_round w n 32 inside)

-- ---- the pairs of all writers

-- the pairs that so many calls of each of the first so many writers leave
pub built_by : ℕ → ℕ → List Pair
built_by zero calls = []
built_by (suc w) calls = built_by w calls ++ round_left (suc w) calls 32

round_writer : (w n p v c : ℕ) → w < v → AllBelow (round_left w n p) (v ∷ c ∷ [])
round_writer w n zero v c low = tt
round_writer w n (suc p) v c low =
    alls-append (λ (q : Pair). key_cmp q.0 (v ∷ c ∷ []) ≡ Less) (round_left w n p)
    (pair_left w (last p n)) (round_writer w n p v c low)
    (pair_all (λ (q : Pair). key_cmp q.0 (v ∷ c ∷ []) ≡ Less) w (last p n)
    (λ call is. key_cmp-first_byte [] w v (call % 32 ∷ []) (c ∷ []) low))

built_below : (writers calls v c : ℕ) → writers < v → AllBelow (built_by writers calls) (v ∷ c ∷ [])
unfolding built_by
built_below zero calls v c low = tt
built_below (suc w) calls v c low =
    alls-append (λ (q : Pair). key_cmp q.0 (v ∷ c ∷ []) ≡ Less) (built_by w calls)
    (round_left (suc w) calls 32) (built_below w calls v c (omega (arith, low)))
    (round_writer (suc w) calls 32 v c low)

built_is : (writers calls : ℕ) → built_by writers calls ≡ after (all_calls writers calls)
unfolding built_by
built_is zero calls = refl
built_is (suc w) calls = sym (
    after-append (all_calls w calls) (calls_of (suc w) calls)
    ∙ ap (λ (m : List Pair). after_from m (calls_of (suc w) calls)) (sym (built_is w calls))
    ∙ writer_left (built_by w calls) (suc w) calls
    (λ c. built_below w calls (suc w) c (omega arith))
    )

-- ---- as the loops build them

pub none_yet : (w n : ℕ) (old : List Pair) → old ≡ old ++ round_left w n 0
none_yet w n old = sym (append-nil old)

pub one_more : (w n p : ℕ) (old now next : List Pair) → now ≡ old ++ round_left w n p
    → next ≡ now ++ pair_left w (last p n) → next ≡ old ++ round_left w n (p + 1)
one_more w n p old now next so_far more =
    let e : suc p ≡ p + 1 = omega arith in
    more ∙ ap (λ (m : List Pair). m ++ pair_left w (last p n)) so_far ∙ append_assoc old
    (round_left w n p) (pair_left w (last p n)) ∙ ap (λ (q : ℕ). old ++ round_left w n q) e

pub none_built : (n : ℕ) → [] ≡ built_by 0 n
unfolding built_by
none_built n = refl

pub writer_more : (w n number : ℕ) (now next : List Pair) → number ≡ w + 1 → now ≡ built_by w n
    → next ≡ now ++ round_left number n 32 → next ≡ built_by (w + 1) n
unfolding built_by
writer_more w n number now next is so_far more =
    let e : suc w ≡ w + 1 = omega arith in let s : number ≡ suc w = omega (arith, is) in
    more ∙ (λ i. so_far i ++ round_left (s i) n 32) ∙ ap (λ (v : ℕ). built_by v n) e

pub all_built : (writers calls : ℕ) (pairs : List Pair) → pairs ≡ built_by writers calls
    → pairs ≡ map_left writers calls
unfolding map_left
all_built writers calls pairs is = is ∙ built_is writers calls

-- all three, for the loop over the writers
pub ruleset all_writers = (none_built, writer_more, all_built)
