-- What a range is that is gathered part by part.
use Rattle.mst_read.proofs.Names.{◌≡◌, ℕ, suc, ◌+◌, ◌-◌, ◌<◌, ◌≤◌, ◌⊎◌, inl, inr, Bool, true, false, cond, List, [], ◌∷◌, ◌++◌, length, Option, Some, None, refl, sym, ◌∙◌, ap, subst, arith, append_assoc, length-append, is_lt, true≢false, cond-true, same_Some, append-nil, Ordering, Less, Pair, key_cmp, AllBelow, above, below, less_chain, greater_from_less, equal_from_same}
use Rattle.std.proofs.Common.{zero, not, take, filter}
use Rattle.std.specs.Prelude.{◌&&◌}
use Rattle.std.proofs.lemmas.List.Elements.{filter-append}
use Rattle.std.specs.List.{AllByRecursion}
use Rattle.mst_key.specs.Map.{AllAbove, from_on, map_range}
use Rattle.mst_key.proofs.Alls.{alls-weaker, filter-nothing}
use Rattle.mst_key.proofs.KeyOrder.{by_order}
use Rattle.mst_read.specs.Span.{within, filled}

-- the first of two lists in turn: those of the one, and of the other as many as are left
take-both : (n k : ℕ) (xs ys : List Pair) → k + length (take n xs) ≡ n → take n (xs ++ ys) ≡ take n
    xs ++ take k ys
take-both zero k xs ys e = let none : k ≡ 0 = omega arith in sym (ap (λ (j : ℕ). take j ys) none)
take-both (suc n) k [] ys e = let all : k ≡ suc n =
    omega arith in sym (ap (λ (j : ℕ). take j ys) all)
take-both (suc n) k (x ∷ xs) ys e =
    ap (λ (l : List Pair). x ∷ l) (take-both n k xs ys (omega arith))

take-short : (n : ℕ) (xs : List Pair) → length (take n xs) ≤ n
take-short zero xs = omega arith
take-short (suc n) [] = omega arith
take-short (suc n) (x ∷ xs) = omega (arith, take-short n xs)

take-nothing : (n : ℕ) → ◌≡◌ {A = List Pair} (take n []) []
take-nothing zero = refl
take-nothing (suc n) = refl

and-false : (t : Bool) → (t && false) ≡ false
and-false true = refl
and-false false = refl

not_below : (bound : Option (List ℕ)) (key k : List ℕ) → key_cmp key k ≡ Less → below bound key
    ≡ false → below bound k ≡ false
not_below None key k less fails = absurd (true≢false fails)
not_below (Some b) key k less fails = by_order {G = is_lt (key_cmp k b) ≡ false} k b
    (λ e. absurd (true≢false (sym (ap is_lt (less_chain key k b less e)) ∙ fails)))
    (λ same. absurd
    (true≢false (sym (ap is_lt (subst (λ (x : List ℕ). key_cmp key x ≡ Less) same less))
    ∙ fails)))
    (λ more. ap is_lt (greater_from_less b k more))

-- keys that are not below the lower bound, and those above one that is not

pub from_less : (k key : List ℕ) → key_cmp k key ≡ Less → from_on (Some k) key ≡ true
from_less k key less = ap (λ (r : Ordering). not (is_lt r)) (greater_from_less k key less)

pub from_same : (k key : List ℕ) → k ≡ key → from_on (Some k) key ≡ true
from_same k key same = ap (λ (r : Ordering). not (is_lt r)) (equal_from_same key k (sym same))

pub not_from_more : (k key : List ℕ) → key_cmp key k ≡ Less → from_on (Some k) key ≡ false
not_from_more k key more = ap (λ (r : Ordering). not (is_lt r)) more

from_above : (k key x : List ℕ) → from_on (Some k) key ≡ true → key_cmp key x ≡ Less
    → from_on (Some k) x ≡ true
from_above k key x high less = by_order {G = from_on (Some k) x ≡ true} k key
    (λ e. from_less k x (less_chain k key x e less))
    (λ same. from_less k x (subst (λ (y : List ℕ). key_cmp y x ≡ Less) (sym same) less))
    (λ more. absurd (true≢false (sym high ∙ not_from_more k key more)))

pub all_from : (k key v : List ℕ) (back : List Pair) → from_on (Some k) key ≡ true
    → AllAbove back key → AllByRecursion (λ p. from_on (Some k) p.0 ≡ true) ((key, v) ∷ back)
all_from k key v back high above = (
  high,
  alls-weaker (λ p. key_cmp key p.0 ≡ Less) (λ p. from_on (Some k) p.0 ≡ true)
      (λ p less. from_above k key p.0 high less) back above,
)

pub none_from : (k key : List ℕ) (front : List Pair) (to : Option (List ℕ)) → AllBelow front key
    → (key_cmp key k ≡ Less) ⊎ (key ≡ k) → AllByRecursion (λ p. within (Some k) to p ≡ false) front
none_from k key front to less low =
    alls-weaker (λ p. key_cmp p.0 key ≡ Less) (λ p. within (Some k) to p ≡ false)
    (λ p e. ap (λ (t : Bool). t && below to p.0) (not_from_more k p.0 (go low p.0 e))) front less
  where
    go : (key_cmp key k ≡ Less) ⊎ (key ≡ k) → (x : List ℕ) → key_cmp x key ≡ Less
        → key_cmp x k ≡ Less
    go (inl more) x e = less_chain x key k e more
    go (inr same) x e = subst (λ (y : List ℕ). key_cmp x y ≡ Less) same e

-- the pairs of a list within the bounds, if none is below the lower one
same_filter : (from to : Option (List ℕ)) (m : List Pair)
    → AllByRecursion (λ p. from_on from p.0 ≡ true) m → filter (within from to) m ≡ filter
    (within None to) m
same_filter from to [] high = refl
same_filter from to (p ∷ m) high =
    ap (λ (t : Bool). cond (t && below to p.0) (p ∷ filter (within from to) m)
    (filter (within from to) m)) high.0
    ∙ ap (λ (l : List Pair). cond (below to p.0) (p ∷ l) l) (same_filter from to m high.1)

pub filled-unbound : (from to : Option (List ℕ)) (limit : ℕ) (found m : List Pair)
    → AllByRecursion (λ p. from_on from p.0 ≡ true) m → filled from to limit found m ≡ filled None
    to limit found m
unfolding filled
filled-unbound from to limit found m high =
    ap (λ (l : List Pair). found ++ take (limit - length found) l) (same_filter from to m high)

module _ (from to : Option (List ℕ)) (limit : ℕ) where
  pub filled-append : (found xs ys : List Pair) → filled from to limit found (xs ++ ys) ≡ filled
      from to limit (filled from to limit found xs) ys
  unfolding filled
  filled-append found xs ys =
      let n = limit - length found in
      let front = filter (within from to) xs in
      let back = filter (within from to) ys in
      let k = limit - length (found ++ take n front) in
      let left : k + length (take n front) ≡ n =
      omega (arith, length-append found (take n front), take-short n front) in
      ap (λ (l : List Pair). found ++ take n l) (filter-append (within from to) xs ys)
      ∙ ap (λ (l : List Pair). found ++ l) (take-both n k front back left)
      ∙ sym (append_assoc found (take n front) (take k back))

  pub filled-full : (found m : List Pair) → limit ≤ length found → filled from to limit found m
      ≡ found
  unfolding filled
  filled-full found m full =
      let none : limit - length found ≡ 0 = omega arith in
      ap (λ (n : ℕ). found ++ take n (filter (within from to) m)) none ∙ append-nil found

  pub filled-nothing : (found m : List Pair) → AllByRecursion (λ p. within from to p ≡ false) m
      → filled from to limit found m ≡ found
  unfolding filled
  filled-nothing found m outside =
      ap (λ (l : List Pair). found ++ take (limit - length found) l)
      (filter-nothing (within from to) m outside)
      ∙ ap (λ (l : List Pair). found ++ l) (take-nothing (limit - length found))
      ∙ append-nil found

  pub filled-one : (found : List Pair) (p : Pair) → length found < limit → within from to p ≡ true
      → filled from to limit found (p ∷ []) ≡ found ++ p ∷ []
  unfolding filled
  filled-one found p room is =
      ap (λ (l : List Pair). found ++ take (limit - length found) l)
      (cond-true (within from to p) (p ∷ []) [] is)
      ∙ go (limit - length found) (omega arith)
    where
      go : (n : ℕ) → 0 < n → found ++ take n (p ∷ []) ≡ found ++ p ∷ []
      go zero some = absurd (omega arith)
      go (suc n) some = ap (λ (l : List Pair). found ++ p ∷ l) (take-nothing n)

  -- a range is what is gathered from nothing
  pub filled-span : (m : List Pair) → filled from to limit [] m ≡ map_range m from to limit
  unfolding filled
  filled-span m = let all : limit - 0 ≡ limit =
      omega arith in ap (λ (n : ℕ). take n (filter (within from to) m)) all

  -- a key that is not below the upper bound, and the greater ones
  pub outside-at : (key v : List ℕ) → below to key ≡ false → within from to (key, v) ≡ false
  outside-at key v fails = ap (λ (t : Bool). from_on from key && t) fails
      ∙ and-false (from_on from key)

  pub outside-above : (m : List Pair) (key : List ℕ) → AllAbove m key → below to key ≡ false
      → AllByRecursion (λ p. within from to p ≡ false) m
  outside-above m key more fails =
      alls-weaker (λ p. key_cmp key p.0 ≡ Less) (λ p. within from to p ≡ false)
      (λ p e. outside-at p.0 p.1 (not_below to key p.0 e fails)) m more

  -- a key that is at least the lower bound and below the upper, and one that is not at least the
  -- lower
  pub inside-at : (key v : List ℕ) → from_on from key ≡ true → below to key ≡ true
      → within from to (key, v) ≡ true
  inside-at key v low high = ap (λ (t : Bool). t && below to key) low ∙ high

  pub outside-from : (key v : List ℕ) → from_on from key ≡ false → within from to (key, v) ≡ false
  outside-from key v fails = ap (λ (t : Bool). t && below to key) fails

-- a pair that is not to be added, and one that is
pub own-ends : (to : Option (List ℕ)) (limit : ℕ) (found : List Pair) (key v : List ℕ)
    → (limit ≤ length found) ⊎ (below to key ≡ false) → found ≡ filled None to limit found
    ((key, v) ∷ [])
own-ends to limit found key v (inl full) =
    sym (filled-full None to limit found ((key, v) ∷ []) full)
own-ends to limit found key v (inr past) =
    sym (filled-nothing None to limit found ((key, v) ∷ [])
    (outside-at None to limit key v past, tt))

pub own-wanted : (to : Option (List ℕ)) (limit : ℕ) (found : List Pair) (key v : List ℕ)
    → (length found < limit) × (below to key ≡ true) → found ++ (key, v) ∷ [] ≡ filled None to limit
    found ((key, v) ∷ [])
own-wanted to limit found key v is =
    sym (filled-one None to limit found (key, v) is.0 (inside-at None to limit key v refl is.1))

-- a pair that was pushed once there was room for it
pub pushed : {before after next : List Pair} (p : Pair) → after ≡ before → next ≡ after ++ p ∷ []
    → next ≡ before ++ p ∷ []
pushed p same is = is ∙ ap (λ (l : List Pair). l ++ p ∷ []) same

-- a pair that was pushed, and is the one that stands there
pub own-pushed : (to : Option (List ℕ)) (limit : ℕ) (found next : List Pair) (key v : List ℕ)
    (p : Pair) (o : Option Pair) → next ≡ found ++ p ∷ [] → o ≡ Some p → o ≡ Some (key, v)
    → (length found < limit) × (below to key ≡ true) → next ≡ filled None to limit found
    ((key, v) ∷ [])
own-pushed to limit found next key v p o pushed read is wanted =
    pushed ∙ ap (λ (x : Pair). found ++ x ∷ []) (same_Some p (key, v) (sym read ∙ is))
    ∙ own-wanted to limit found key v wanted
