-- Where a key lies among edits whose keys rise.
use Rattle.mst_batch.proofs.Names.{◌≡◌, ℕ, zero, suc, ◌+◌, ◌-◌, ◌<◌, ◌≤◌, Bool, true, false, true≢false, List, [], ◌∷◌, ◌++◌, length, take, drop, get_or, Bor, Less, Equal, Greater, is_lt, refl, sym, ap, ◌∙◌, subst, arith, AllByRecursion, get_or-drop, take-append-drop, take_all, Edit, AreAbove, AreRising, key_of, key_cmp, less_chain, listed, AreBelow, AreOf, rising-back}
use Rattle.std.proofs.Common.{Ordering}
use Rattle.std.specs.Ordering.{is_le}
use Rattle.std.specs.List.{slice_range}
use Rattle.std.specs.List.Sorted.{IsPartitionedBy, IsPartitionPoint}
use Rattle.std.proofs.lemmas.List.{drop-drop, length-drop}
use Rattle.mst_key.proofs.KeyOrder.{less_from_test, less_from_greater, same_from_equal}
use Rattle.mst_edits.proofs.Parts.{listed-append}
use Rattle.mst_edits.proofs.Rising.{above-less, rising-front}

-- ---- tests of keys

-- the key of the edit is below the key, or it is not above it
abbrev pub is_below : List ℕ → Bor Edit → Bool
is_below k e = is_lt (key_cmp (key_of e.now) k)

abbrev pub is_up_to : List ℕ → Bor Edit → Bool
is_up_to k e = is_le (key_cmp (key_of e.now) k)

below-chain : (a b k : List ℕ) → key_cmp a b ≡ Less → is_lt (key_cmp b k) ≡ true
    → is_lt (key_cmp a k) ≡ true
below-chain a b k less is = ap is_lt (less_chain a b k less (less_from_test b k is))

up_to-chain : (a b k : List ℕ) → key_cmp a b ≡ Less → is_le (key_cmp b k) ≡ true
    → is_le (key_cmp a k) ≡ true
up_to-chain a b k less is = go (key_cmp b k) refl is
  where
    go : (o : Ordering) → key_cmp b k ≡ o → is_le o ≡ true → is_le (key_cmp a k) ≡ true
    go Less o_is t = ap is_le (less_chain a b k less o_is)
    go Equal o_is t =
        ap is_le (subst (λ (q : List ℕ). key_cmp a q ≡ Less) (same_from_equal b k o_is) less)
    go Greater o_is t = absurd (true≢false (sym t))

neither : (o : Ordering) → is_lt o ≡ true → is_le o ≡ false → ⊥
neither Less lt le = true≢false le
neither Equal lt le = true≢false (sym lt)
neither Greater lt le = true≢false (sym lt)

equal_between : (o : Ordering) → is_lt o ≡ false → is_le o ≡ true → o ≡ Equal
equal_between Less lt le = absurd (true≢false lt)
equal_between Equal lt le = refl
equal_between Greater lt le = absurd (true≢false (sym le))

greater_behind : (o : Ordering) → is_le o ≡ false → o ≡ Greater
greater_behind Less le = absurd (true≢false le)
greater_behind Equal le = absurd (true≢false le)
greater_behind Greater le = refl

-- ---- a test that holds of all keys below one of which it holds parts rising edits

above-at : (xs : List (Bor Edit)) (k : List ℕ) (j : ℕ) (d : Bor Edit) → AreAbove (listed xs) k
    → j < length xs → key_cmp k (key_of (get_or xs j d).now) ≡ Less
above-at [] k j d above lt = absurd (omega (arith, lt))
above-at (x ∷ xs) k zero d above lt = above.0
above-at (x ∷ xs) k (suc j) d above lt = above-at xs k j d above.1 (omega (arith, lt))

module _ (test : List ℕ → Bool)
    (down : (a b : List ℕ) → key_cmp a b ≡ Less → test b ≡ true → test a ≡ true) where
  parted : (xs : List (Bor Edit)) → AreRising (listed xs)
      → IsPartitionedBy (λ (e : Bor Edit). test (key_of e.now)) xs
  parted [] rising i j d le lt is = absurd (omega (arith, lt))
  parted (x ∷ xs) rising zero zero d le lt is = is
  parted (x ∷ xs) rising zero (suc j) d le lt is =
      down (key_of x.now) (key_of (get_or xs j d).now)
      (above-at xs (key_of x.now) j d rising.0 (omega (arith, lt))) is
  parted (x ∷ xs) rising (suc i) zero d le lt is = absurd (omega (arith, le))
  parted (x ∷ xs) rising (suc i) (suc j) d le lt is =
      parted xs rising.1 i j d (omega (arith, le)) (omega (arith, lt)) is

pub parted_below : (k : List ℕ) (xs : List (Bor Edit)) → AreRising (listed xs)
    → IsPartitionedBy (is_below k) xs
parted_below k xs rising =
    parted (λ (q : List ℕ). is_lt (key_cmp q k)) (λ a b less. below-chain a b k less) xs rising

pub parted_up_to : (k : List ℕ) (xs : List (Bor Edit)) → AreRising (listed xs)
    → IsPartitionedBy (is_up_to k) xs
parted_up_to k xs rising =
    parted (λ (q : List ℕ). is_le (key_cmp q k)) (λ a b less. up_to-chain a b k less) xs rising

-- a key below the first of rising edits is below them all
pub all_above : (xs : List (Bor Edit)) (e : Bor Edit) (k : List ℕ) → AreRising (listed xs)
    → 1 ≤ length xs → e ≡ get_or xs 0 e → key_cmp k (key_of e.now) ≡ Less
    → AreAbove (listed xs) k
all_above [] e k rising some is less = absurd (omega (arith, some))
all_above (x ∷ xs) e k rising some is less =
    let first : key_cmp k (key_of x.now) ≡ Less =
    subst (λ (f : Bor Edit). key_cmp k (key_of f.now) ≡ Less) is less in
    (first, above-less (listed xs) k (key_of x.now) first rising.0)

pub none_above : (xs : List (Bor Edit)) (k : List ℕ) → length xs ≡ 0
    → AreAbove (listed (drop 0 xs)) k
none_above [] k is = tt
none_above (x ∷ xs) k is = absurd (omega (arith, is))

-- ---- what holds at places

module _ (P : Edit → Type 0) where
  taken : (xs : List (Bor Edit)) (n : ℕ)
      → ((i : ℕ) (d : Bor Edit) → i < n → i < length xs → P (get_or xs i d).now)
      → AllByRecursion P (listed (take n xs))
  taken [] zero all = tt
  taken [] (suc n) all = tt
  taken (x ∷ xs) zero all = tt
  taken (x ∷ xs) (suc n) all = (
    all 0 x (omega arith) (omega arith),
    taken xs n (λ i d lt within. all (suc i) d (omega (arith, lt)) (omega (arith, within))),
  )

  dropped : (xs : List (Bor Edit)) (n : ℕ)
      → ((i : ℕ) (d : Bor Edit) → n ≤ i → i < length xs → P (get_or xs i d).now)
      → AllByRecursion P (listed (drop n xs))
  dropped [] zero all = tt
  dropped [] (suc n) all = tt
  dropped (x ∷ xs) zero all = (
    all 0 x (omega arith) (omega arith),
    dropped xs zero (λ i d le within. all (suc i) d (omega arith) (omega (arith, within))),
  )
  dropped (x ∷ xs) (suc n) all =
      dropped xs n (λ i d le within. all (suc i) d (omega (arith, le)) (omega (arith, within)))

-- ---- the two places round a key

-- behind the edits of lesser keys, and before those of greater ones
pub record Places (xs : List (Bor Edit)) (k : List ℕ) (start end : ℕ) : Type 0 where
  pub low : start ≤ length xs
  pub high : end ≤ length xs
  pub below : IsPartitionPoint (λ e. is_below k e ≡ true) (λ e. is_below k e ≡ false) xs start
  pub up_to : IsPartitionPoint (λ e. is_up_to k e ≡ true) (λ e. is_up_to k e ≡ false) xs end

pub in_order : (xs : List (Bor Edit)) (k : List ℕ) (start end : ℕ) → Places xs k start end
    → start ≤ end
in_order [] k start end p = omega (arith, p.low)
in_order (x ∷ xs) k start end p =
    let other : end < start → ⊥ =
    λ lt. neither (key_cmp (key_of (get_or (x ∷ xs) end x).now) k)
    (p.below.0 end x (omega arith) lt)
    (p.up_to.1 end x (omega arith) (omega (arith, lt, p.low))) in
    omega (arith, other)

module _ (xs : List (Bor Edit)) (k : List ℕ) (start end : ℕ) (p : Places xs k start end) where
  pub below_are : AreBelow (listed (take start xs)) k
  below_are = taken (λ (e : Edit). key_cmp (key_of e) k ≡ Less) xs start
      (λ i d lt within. less_from_test (key_of (get_or xs i d).now) k
      (p.below.0 i d (omega arith) lt))

  pub own_are : AreOf (listed (slice_range xs start end)) k
  own_are = taken (λ (e : Edit). key_of e ≡ k) (drop start xs) (end - start)
      (λ i d lt within.
      let here : get_or (drop start xs) i d ≡ get_or xs (start + i) d = get_or-drop start xs i d in
      subst (λ (e : Bor Edit). key_of e.now ≡ k) (sym here)
      (same_from_equal (key_of (get_or xs (start + i) d).now) k
      (equal_between (key_cmp (key_of (get_or xs (start + i) d).now) k)
      (p.below.1 (start + i) d (omega arith) (omega (arith, lt, p.high)))
      (p.up_to.0 (start + i) d (omega arith) (omega (arith, lt))))))

  pub above_are : AreAbove (listed (drop end xs)) k
  above_are = dropped (λ (e : Edit). key_cmp k (key_of e) ≡ Less) xs end
      (λ i d le within. less_from_greater (key_of (get_or xs i d).now) k
      (greater_behind (key_cmp (key_of (get_or xs i d).now) k) (p.up_to.1 i d le within)))

-- ---- the edits in three parts

pub three_parts : (xs : List (Bor Edit)) (start end : ℕ) → start ≤ end
    → listed xs
    ≡ listed (take start xs) ++ (listed (slice_range xs start end) ++ listed (drop end xs))
three_parts xs start end order =
    let behind : drop (end - start) (drop start xs) ≡ drop end xs =
    drop-drop (end - start) start xs
    ∙ ap (λ (n : ℕ). drop n xs) (omega (arith, order)) in
    let whole : xs ≡ take start xs ++ (slice_range xs start end ++ drop end xs) =
    sym (take-append-drop start xs)
    ∙ ap (λ (ys : List (Bor Edit)). take start xs ++ ys)
    (sym (take-append-drop (end - start) (drop start xs))
    ∙ ap (λ (ys : List (Bor Edit)). slice_range xs start end ++ ys) behind) in
    ap listed whole
    ∙ listed-append (take start xs) (slice_range xs start end ++ drop end xs)
    ∙ ap (λ (es : List Edit). listed (take start xs) ++ es)
    (listed-append (slice_range xs start end) (drop end xs))

pub parts_rise : (xs : List (Bor Edit)) (start end : ℕ) → start ≤ end → AreRising (listed xs)
    → AreRising (listed (take start xs)) × AreRising (listed (slice_range xs start end))
parts_rise xs start end order rising =
    let all : AreRising (listed (take start xs)
    ++ (listed (slice_range xs start end) ++ listed (drop end xs))) =
    subst AreRising (three_parts xs start end order) rising in (
      rising-front (listed (take start xs))
          (listed (slice_range xs start end) ++ listed (drop end xs)) all,
      rising-front (listed (slice_range xs start end)) (listed (drop end xs))
          (rising-back (listed (take start xs))
          (listed (slice_range xs start end) ++ listed (drop end xs)) all),
    )

-- what is left behind a place
pub rest_is : (xs : List (Bor Edit)) (n : ℕ) → take (length xs - n) (drop n xs) ≡ drop n xs
rest_is xs n = take_all (length xs - n) (drop n xs) (omega (arith, length-drop n xs))

pub rest_fits : (xs : List (Bor Edit)) (n m : ℕ) → length xs ≤ m
    → length (take (length xs - n) (drop n xs)) ≤ m
rest_fits xs n m less = omega (arith, ap length (rest_is xs n), length-drop n xs, less)
