-- The calls of the writers go round few keys: a map that any of them leave has at most 288 pairs.
use Rattle.mst_load.proofs.Names.{◌≡◌, ◌≢◌, ℕ, zero, suc, ◌+◌, ◌-◌, ◌*◌, ◌<◌, ◌≤◌, Bool, true, false, List, [], ◌∷◌, length, take, filter, sym, ap, subst, ◌∙◌, arith, true≢false, AllByRecursion, Less, nat_tests, dite, ℕ_discrete, Change, Put, Remove, Migrate, Batch, History, after_from, after, changed, Pair, key_cmp, AllAbove, alls-append, IsAscending-after, equal_from_same, key_cmp-first_byte}
use Rattle.std.proofs.Common.{nat_lt, ◌&&◌}
use Rattle.std.specs.Ordering.{is_lt, is_gt}
use Rattle.std.specs.declared.cmp.Ordering.TheVariants.{Equal, Greater}
use Rattle.mst_key.specs.Map.{IsAscending}
use Rattle.mst_key.proofs.Alls.{alls-filter}
use Rattle.mst_key.proofs.KeyOrder.{greater_from_less}

-- ---- the places that keys may have

-- whether a key is one of a call: two bytes, a writer's number and a place in its round
abbrev pub is_place : List ℕ → Bool
is_place [] = false
is_place (w ∷ []) = false
is_place (w ∷ c ∷ []) = nat_lt w 9 && nat_lt c 32
is_place (w ∷ c ∷ b ∷ bs) = false

-- whether a change puts at such a key
abbrev pub is_call : Change → Bool
is_call (Put k v) = is_place k
is_call (Remove k) = false
is_call (Migrate to) = false
is_call (Batch es) = false

-- the number of a place
abbrev place_number : List ℕ → ℕ
place_number [] = 0
place_number (w ∷ []) = 0
place_number (w ∷ c ∷ bs) = w * 32 + c

-- all events are such puts
abbrev pub AreCalls : History → Type 0
AreCalls h = AllByRecursion (λ e. is_call e.change ≡ true) h

abbrev HavePlaces : List Pair → Type 0
HavePlaces m = AllByRecursion (λ p. is_place p.0 ≡ true) m

-- ---- their order

-- a number is below another, or not
below_or : {G : Type 0} (a b : ℕ) → (a < b → G) → (b ≤ a → G) → G
below_or a b below above = dite (ℕ_discrete (b - a) 0)
    (λ (none : b - a ≡ 0). above (omega (arith, none)))
    (λ (some : b - a ≢ 0). below (omega (arith, some)))

not_less : {G : Type 0} (k j : List ℕ) → key_cmp j k ≡ Less → key_cmp k j ≡ Less → G
not_less k j above below = differ (sym (greater_from_less j k above) ∙ below)
  where
    differ : {G : Type 0} → Greater ≡ Less → G
    differ e = absurd (cc)

not_itself : {G : Type 0} (k j : List ℕ) → j ≡ k → key_cmp k j ≡ Less → G
not_itself k j same below = differ (sym (equal_from_same k j (sym same)) ∙ below)
  where
    differ : {G : Type 0} → Equal ≡ Less → G
    differ e = absurd (cc)

second_less : (w b d : ℕ) → key_cmp (w ∷ b ∷ []) (w ∷ d ∷ []) ≡ Less → b < d
second_less w b d less = below_or b d (λ below. below)
    (λ above. dite (ℕ_discrete d b)
    (λ (same : d ≡ b). not_itself (w ∷ b ∷ []) (w ∷ d ∷ []) (ap (λ (x : ℕ). w ∷ x ∷ []) same) less)
    (λ (other : d ≢ b). not_less (w ∷ b ∷ []) (w ∷ d ∷ [])
    (key_cmp-first_byte (w ∷ []) d b [] [] (omega (arith, above, other))) less))

-- the greater key has the greater number
numbers_rise : (w b v d : ℕ) → b < 32 → key_cmp (w ∷ b ∷ []) (v ∷ d ∷ []) ≡ Less
    → w * 32 + b < v * 32 + d
numbers_rise w b v d small less = below_or w v
    (λ below. omega (arith, small, below))
    (λ above. dite (ℕ_discrete v w)
    (λ (same : v ≡ w). let low : b < d = second_less w b d
    (subst (λ (x : ℕ). key_cmp (w ∷ b ∷ []) (x ∷ d ∷ []) ≡ Less) same less) in
    omega (arith, low, same))
    (λ (other : v ≢ w). not_less (w ∷ b ∷ []) (v ∷ d ∷ [])
    (key_cmp-first_byte [] v w (d ∷ []) (b ∷ []) (omega (arith, above, other))) less))

-- ---- how many keys have places

place_small : (k : List ℕ) → is_place k ≡ true → place_number k < 288
place_small [] is = absurd (true≢false (sym is))
place_small (w ∷ []) is = absurd (true≢false (sym is))
place_small (w ∷ c ∷ []) is = grind (arith, nat_tests, is)
place_small (w ∷ c ∷ b ∷ bs) is = absurd (true≢false (sym is))

place_rises : (k j : List ℕ) → is_place k ≡ true → is_place j ≡ true → key_cmp k j ≡ Less
    → place_number k < place_number j
place_rises [] j is also less = absurd (true≢false (sym is))
place_rises (w ∷ []) j is also less = absurd (true≢false (sym is))
place_rises (w ∷ c ∷ b ∷ bs) j is also less = absurd (true≢false (sym is))
place_rises (w ∷ c ∷ []) [] is also less = absurd (true≢false (sym also))
place_rises (w ∷ c ∷ []) (v ∷ []) is also less = absurd (true≢false (sym also))
place_rises (w ∷ c ∷ []) (v ∷ d ∷ b ∷ bs) is also less = absurd (true≢false (sym also))
place_rises (w ∷ c ∷ []) (v ∷ d ∷ []) is also less =
    numbers_rise w c v d (grind (arith, nat_tests, is)) less

-- all pairs have a number above one
numbers_above : (k : List ℕ) (m : List Pair) → is_place k ≡ true → HavePlaces m → AllAbove m k
    → AllByRecursion (λ p. place_number k < place_number p.0) m
numbers_above k [] is places above = tt
numbers_above k (p ∷ m) is places above =
    (place_rises k p.0 is places.0 above.0, numbers_above k m is places.1 above.1)

few_above : (m : List Pair) (low : ℕ) → low ≤ 288 → IsAscending m → HavePlaces m
    → AllByRecursion (λ p. low ≤ place_number p.0) m → length m + low ≤ 288
few_above [] low small rise places above = omega (arith, small)
few_above (p ∷ m) low small rise places above =
    let n = place_number p.0 in let few = place_small p.0 places.0 in let here : low ≤ n =
    above.0 in
    let rest = few_above m (suc n) (omega (arith, few)) rise.1 places.1
    (next m (numbers_above p.0 m places.0 places.1 rise.0)) in
    omega (arith, rest, here)
  where
    next : (xs : List Pair) → AllByRecursion (λ q. place_number p.0 < place_number q.0) xs
        → AllByRecursion (λ q. suc (place_number p.0) ≤ place_number q.0) xs
    next [] each = tt
    next (x ∷ xs) each = (each.0, next xs each.1)

-- ---- the maps of calls

placed : (m : List Pair) (c : Change) → is_call c ≡ true → HavePlaces m → HavePlaces (changed m c)
placed m (Put k v) is places =
    alls-append (λ (p : Pair). is_place p.0 ≡ true) (filter (λ p. is_lt (key_cmp p.0 k)) m)
    ((k, v) ∷ filter (λ p. is_gt (key_cmp p.0 k)) m)
    (alls-filter (λ (p : Pair). is_place p.0 ≡ true) (λ p. is_lt (key_cmp p.0 k)) m places)
    (is, alls-filter (λ (p : Pair). is_place p.0 ≡ true) (λ p. is_gt (key_cmp p.0 k)) m places)
placed m (Remove k) is places = absurd (true≢false (sym is))
placed m (Migrate to) is places = absurd (true≢false (sym is))
placed m (Batch es) is places = absurd (true≢false (sym is))

placed_after : (m : List Pair) (h : History) → AreCalls h → HavePlaces m
    → HavePlaces (after_from m h)
placed_after m [] calls places = places
placed_after m (e ∷ h) calls places =
    placed_after (changed m e.change) h calls.1 (placed m e.change calls.0 places)

nothing_low : (m : List Pair) → AllByRecursion (λ p. 0 ≤ place_number p.0) m
nothing_low [] = tt
nothing_low (p ∷ m) = (omega arith, nothing_low m)

pub few_pairs : (h : History) → AreCalls h → length (after h) ≤ 288
few_pairs h calls =
    let few = few_above (after h) 0 (omega arith) (IsAscending-after h)
    (placed_after [] h calls tt) (nothing_low (after h)) in
    omega (arith, few)

-- the same of each version
calls_taken : (n : ℕ) (h : History) → AreCalls h → AreCalls (take n h)
calls_taken zero h calls = tt
calls_taken (suc n) [] calls = tt
calls_taken (suc n) (e ∷ h) calls = (calls.0, calls_taken n h calls.1)

pub each_few : (h : History) → AreCalls h → (v : ℕ) → length (after (take v h)) ≤ 288
each_few h calls v = few_pairs (take v h) (calls_taken v h calls)
