-- The laws of `map_next` and `map_range`.
use Rattle.mst_key.proofs.Names.{◌≡◌, ◌≢◌, ◌⊎◌, ℕ, zero, suc, Bool, true, false, not, cond, List, [], ◌∷◌, Option, Some, None, Contains, filter, length, inl, inr, refl, sym, ap, ◌∙◌, subst, Ordering, Less, Equal, Greater, is_lt, is_gt, ◌≤◌, ◌<◌, arith, All-from_recursion, All-contains, Contains-append_right, AllByRecursion, IsKey, IsValue, Pair, key_cmp, AllBelow, IsAscending, IsMap}
use Rattle.std.proofs.Common.{◌&&◌, find, take, IfSome, ⊎_elim}
use Rattle.std.proofs.lemmas.List.{length-take}
use Rattle.std.proofs.lemmas.Bool.Decides.{Decides-and}
use Rattle.std.specs.Bool.{Decides}
use Rattle.mst_key.specs.Map.{above, from_on, below, map_next, map_range}
use Rattle.mst_key.proofs.Alls.{alls-filter}
use Rattle.mst_key.proofs.KeyOrder.{less_from_greater, greater_from_test, greater_from_less, less_from_test}
use Rattle.mst_key.proofs.MapLaws.{IsAscending-filter}

not_both : (t : Bool) → t ≡ true → t ≡ false → ⊥
not_both t on off = let e : true ≡ false = sym on ∙ off in cc

-- ---- elements of lists

module _ {X : Type 0} where
  pub contains-cases : (y : X) (xs : List X) (x : X) → Contains (y ∷ xs) x → (y ≡ x) ⊎ Contains xs x
  contains-cases y xs x has = go has.0 has.1 has.2
    where
      go : (k : ℕ) → k < length (y ∷ xs) → Rattle.std.specs.Prelude.slice_index_or (y ∷ xs) k x ≡ x
          → (y ≡ x) ⊎ Contains xs x
      go zero l e = inl e
      go (suc k) l e = inr (k, omega (arith, l), e)

  pub contains-nothing : (x : X) → Contains [] x → ⊥
  contains-nothing x has = let l = has.1 in absurd (omega (arith, l))

  pub contains-first : (y : X) (xs : List X) (x : X) → y ≡ x → Contains (y ∷ xs) x
  contains-first y xs x is = (0, omega arith, is)

  pub contains-later : (y : X) (xs : List X) (x : X) → Contains xs x → Contains (y ∷ xs) x
  contains-later y xs x has = Contains-append_right (y ∷ []) xs x has

  -- an element of a list of which something holds
  pub contains-all : (P : X → Type 0) (xs : List X) (x : X) → AllByRecursion P xs → Contains xs x
      → P x
  contains-all P xs x all has = All-contains P xs x (All-from_recursion P xs all) has

  -- ---- the first element that passes a test

  pub find-in : (test : X → Bool) (xs : List X) (x : X) → find test xs ≡ Some x → Contains xs x
      × (test x ≡ true)
  find-in test [] x e = absurd (let f : None ≡ Some x = e in cc)
  find-in test (y ∷ xs) x e = go (test y) refl e (find-in test xs x)
    where
      go : (t : Bool) → test y ≡ t → cond t (Some y) (find test xs) ≡ Some x
          → (find test xs ≡ Some x → Contains xs x × (test x ≡ true)) → Contains (y ∷ xs) x
          × (test x ≡ true)
      go true is e more = let f : Some y ≡ Some x = e in let same : y ≡ x =
          cc in (contains-first y xs x same, ap test (sym same) ∙ is)
      go false is e more = let rest = more e in (contains-later y xs x rest.0, rest.1)

  pub find-none : (test : X → Bool) (xs : List X) (x : X) → find test xs ≡ None → Contains xs x
      → test x ≡ true → ⊥
  find-none test [] x e has passes = contains-nothing x has
  find-none test (y ∷ xs) x e has passes = go (test y) refl e (contains-cases y xs x has)
      (λ f rest. find-none test xs x f rest passes)
    where
      go : (t : Bool) → test y ≡ t → cond t (Some y) (find test xs) ≡ None → (y ≡ x) ⊎ Contains xs x
          → (find test xs ≡ None → Contains xs x → ⊥) → ⊥
      go true is e has more = let f : Some y ≡ None = e in cc
      go false is e (inl same) more = not_both (test x) passes (ap test (sym same) ∙ is)
      go false is e (inr rest) more = more e rest

  -- ---- the elements that pass a test

  pub filter-in : (test : X → Bool) (xs : List X) (x : X) → Contains (filter test xs) x
      → Contains xs x × (test x ≡ true)
  filter-in test [] x has = absurd (contains-nothing x has)
  filter-in test (y ∷ xs) x has = go (test y) refl has (filter-in test xs x)
    where
      go : (t : Bool) → test y ≡ t → Contains (cond t (y ∷ filter test xs) (filter test xs)) x
          → (Contains (filter test xs) x → Contains xs x × (test x ≡ true)) → Contains (y ∷ xs) x
          × (test x ≡ true)
      go true is has more = ⊎_elim
          (λ (same : y ≡ x). (contains-first y xs x same, ap test (sym same) ∙ is))
          (λ (rest : Contains (filter test xs) x). let r =
          more rest in (contains-later y xs x r.0, r.1))
          (contains-cases y (filter test xs) x has)
      go false is has more = let r = more has in (contains-later y xs x r.0, r.1)

  pub in-filter : (test : X → Bool) (xs : List X) (x : X) → Contains xs x → test x ≡ true
      → Contains (filter test xs) x
  in-filter test [] x has passes = has
  in-filter test (y ∷ xs) x has passes = go (test y) refl (contains-cases y xs x has)
      (λ rest. in-filter test xs x rest passes)
    where
      go : (t : Bool) → test y ≡ t → (y ≡ x) ⊎ Contains xs x
          → (Contains xs x → Contains (filter test xs) x)
          → Contains (cond t (y ∷ filter test xs) (filter test xs)) x
      go true is (inl same) more = contains-first y (filter test xs) x same
      go true is (inr rest) more = contains-later y (filter test xs) x (more rest)
      go false is (inl same) more = absurd (not_both (test x) passes (ap test (sym same) ∙ is))
      go false is (inr rest) more = more rest

  -- ---- the first elements

  pub take-in : (n : ℕ) (xs : List X) (x : X) → Contains (take n xs) x → Contains xs x
  take-in zero xs x has = absurd (contains-nothing x has)
  take-in (suc n) [] x has = has
  take-in (suc n) (y ∷ xs) x has = ⊎_elim
      (λ (same : y ≡ x). contains-first y xs x same)
      (λ (rest : Contains (take n xs) x). contains-later y xs x (take-in n xs x rest))
      (contains-cases y (take n xs) x has)

  pub alls-take : (P : X → Type 0) (n : ℕ) (xs : List X) → AllByRecursion P xs → AllByRecursion P
      (take n xs)
  alls-take P zero xs all = tt
  alls-take P (suc n) [] all = tt
  alls-take P (suc n) (y ∷ xs) all = (all.0, alls-take P n xs all.1)

-- ---- the bounds

above-Decides : (bound : Option (List ℕ)) (k : List ℕ) → Decides (above bound k)
    (IfSome bound (λ b. key_cmp b k ≡ Less))
above-Decides None k = (λ e. tt, λ is. refl)
above-Decides (Some b) k = (
  λ e. less_from_greater k b (greater_from_test k b e),
  λ less. ap is_gt
      (greater_from_less b k less),
)

below-Decides : (bound : Option (List ℕ)) (k : List ℕ) → Decides (below bound k)
    (IfSome bound (λ b. key_cmp k b ≡ Less))
below-Decides None k = (λ e. tt, λ is. refl)
below-Decides (Some b) k = (λ e. less_from_test k b e, λ less. ap is_lt less)

not_less : (r : Ordering) → Decides (not (is_lt r)) (r ≢ Less)
not_less Less = (λ e. absurd (let f : false ≡ true = e in cc), λ n. absurd (n refl))
not_less Equal = (λ e f. let g : Equal ≡ Less = f in cc, λ n. refl)
not_less Greater = (λ e f. let g : Greater ≡ Less = f in cc, λ n. refl)

from-Decides : (bound : Option (List ℕ)) (k : List ℕ) → Decides (from_on bound k)
    (IfSome bound (λ b. key_cmp k b ≢ Less))
from-Decides None k = (λ e. tt, λ is. refl)
from-Decides (Some b) k = not_less (key_cmp k b)

-- ---- the least pair above a bound

pub next_above : (m : List Pair) (bound : Option (List ℕ)) (p : Pair) → map_next m bound ≡ Some p
    → Contains m p × IfSome bound (λ b. key_cmp b p.0 ≡ Less)
next_above m bound p e = let is = find-in (λ q. above bound q.0) m p e in
    (is.0, (above-Decides bound p.0).0 is.1)

least : (test : Pair → Bool) (m : List Pair) (p q : Pair) → IsAscending m → find test m ≡ Some p
    → Contains m q → test q ≡ true → (q ≡ p) ⊎ (key_cmp p.0 q.0 ≡ Less)
least test [] p q rise e has passes = absurd (contains-nothing q has)
least test (r ∷ m) p q rise e has passes = go (test r) refl e (contains-cases r m q has)
    (λ f rest. least test m p q rise.1 f rest passes)
  where
    go : (t : Bool) → test r ≡ t → cond t (Some r) (find test m) ≡ Some p → (r ≡ q) ⊎ Contains m q
        → (find test m ≡ Some p → Contains m q → (q ≡ p) ⊎ (key_cmp p.0 q.0 ≡ Less)) → (q ≡ p)
        ⊎ (key_cmp p.0 q.0 ≡ Less)
    go true is e (inl same) more = let f : Some r ≡ Some p = e in let found : r ≡ p =
        cc in inl (sym same ∙ found)
    go true is e (inr rest) more =
        let f : Some r ≡ Some p = e in let found : r ≡ p = cc in
        inr (subst (λ (s : Pair). key_cmp s.0 q.0 ≡ Less) found
        (contains-all (λ s. key_cmp r.0 s.0 ≡ Less) m q rise.0 rest))
    go false is e (inl same) more = absurd (not_both (test q) passes (ap test (sym same) ∙ is))
    go false is e (inr rest) more = more e rest

pub next_least : (m : List Pair) (bound : Option (List ℕ)) (p q : Pair) → IsMap m → map_next m bound
    ≡ Some p → Contains m q → IfSome bound (λ b. key_cmp b q.0 ≡ Less) → (q ≡ p)
    ⊎ (key_cmp p.0 q.0 ≡ Less)
next_least m bound p q map e has is = least (λ r. above bound r.0) m p q map.ascending e has
    ((above-Decides bound q.0).1 is)

pub next_none : (m : List Pair) (bound : Option (List ℕ)) (q : Pair) → map_next m bound ≡ None
    → Contains m q → IfSome bound (λ b. key_cmp b q.0 ≡ Less) → ⊥
next_none m bound q e has is = find-none (λ r. above bound r.0) m q e has
    ((above-Decides bound q.0).1 is)

-- ---- the first pairs between two bounds

module _ (m : List Pair) (from to : Option (List ℕ)) (limit : ℕ) where
  abbrev Within : List ℕ → Type 0
  Within k = IfSome from (λ b. key_cmp k b ≢ Less) × IfSome to (λ b. key_cmp k b ≡ Less)

  within-Decides : (k : List ℕ) → Decides (from_on from k && below to k) (Within k)
  within-Decides k = Decides-and (from_on from k) (below to k) (from-Decides from k)
      (below-Decides to k)

  abbrev kept : List Pair
  kept = filter (λ (p : Pair). from_on from p.0 && below to p.0) m

  pub span_within : (p : Pair) → Contains (map_range m from to limit) p → Contains m p
      × IfSome from (λ b. key_cmp p.0 b ≢ Less) × IfSome to (λ b. key_cmp p.0 b ≡ Less)
  span_within p has =
      let is = filter-in (λ (q : Pair). from_on from q.0 && below to q.0) m p
      (take-in limit kept p has) in
      let w = (within-Decides p.0).0 is.1 in (is.0, w.0, w.1)

  pub span_limit : length (map_range m from to limit) ≤ limit
  span_limit = omega (arith, length-take limit kept)

  pub span_is_map : IsMap m → IsMap (map_range m from to limit)
  span_is_map map = record {
    ascending =
        ascending-take limit kept
        (IsAscending-filter (λ (p : Pair). from_on from p.0 && below to p.0) m map.ascending);
    limits = alls-take (λ (p : Pair). IsKey p.0 × IsValue p.1) limit kept
        (alls-filter (λ (p : Pair). IsKey p.0 × IsValue p.1)
        (λ (p : Pair). from_on from p.0 && below to p.0) m map.limits);
  }
    where
      ascending-take : (n : ℕ) (xs : List Pair) → IsAscending xs → IsAscending (take n xs)
      ascending-take zero xs rise = tt
      ascending-take (suc n) [] rise = tt
      ascending-take (suc n) (p ∷ xs) rise =
          (alls-take (λ q. key_cmp p.0 q.0 ≡ Less) n xs rise.0, ascending-take n xs rise.1)

  first : (n : ℕ) (xs : List Pair) (q : Pair) → IsAscending xs → Contains xs q
      → Contains (take n xs) q ⊎ ((length (take n xs) ≡ n) × AllBelow (take n xs) q.0)
  first zero xs q rise has = inr (refl, tt)
  first (suc n) [] q rise has = absurd (contains-nothing q has)
  first (suc n) (p ∷ xs) q rise has = ⊎_elim
      (λ (same : p ≡ q). inl (contains-first p (take n xs) q same))
      (λ (rest : Contains xs q). ⊎_elim
      (λ (taken : Contains (take n xs) q). inl (contains-later p (take n xs) q taken))
      (λ (full : (length (take n xs) ≡ n) × AllBelow (take n xs) q.0). inr
      (ap suc full.0, (contains-all (λ s. key_cmp p.0 s.0 ≡ Less) xs q rise.0 rest, full.1)))
      (first n xs q rise.1 rest))
      (contains-cases p xs q has)

  pub span_first : (q : Pair) → IsMap m → Contains m q → IfSome from (λ b. key_cmp q.0 b ≢ Less)
      → IfSome to (λ b. key_cmp q.0 b ≡ Less) → Contains (map_range m from to limit) q
      ⊎ ((length (map_range m from to limit) ≡ limit) × AllBelow (map_range m from to limit) q.0)
  span_first q map has low high =
      first limit kept q
      (IsAscending-filter (λ (p : Pair). from_on from p.0 && below to p.0) m map.ascending)
      (in-filter (λ (p : Pair). from_on from p.0 && below to p.0) m q has
      ((within-Decides q.0).1 (low, high)))
