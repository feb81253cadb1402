-- The laws of `map_get`, `put` and `remove`, and that a map is determined by its look-ups.
use Rattle.mst_key.proofs.Names.{◌≡◌, ◌≢◌, ℕ, Bool, true, false, not, cond, List, [], ◌∷◌, ◌++◌, Option, Some, None, Contains, filter, refl, sym, ap, ◌∙◌, subst, Ordering, Less, Equal, Greater, is_eq, is_lt, is_gt, true≢false, arith, cond-true, cond-false, cond_both, All-from_recursion, All-contains, Contains-append_right, AllByRecursion, IsKey, IsValue, Pair, key_cmp, AllBelow, AllAbove, IsAscending, IsMap, map_get, put, remove}
use Rattle.mst_key.proofs.Alls.{alls-append, alls-weaker, alls-both, alls-filter, alls-passes}
use Rattle.mst_key.proofs.KeyOrder.{key_cmp-itself, test_of_same, test_of_other, less_chain, less_from_greater, greater_from_less, other_from_less, less_from_test, greater_from_test, by_order, by_same}

-- ---- look in parts of a list

pub map_get-here : (p : Pair) (m : List Pair) (k : List ℕ) → p.0 ≡ k → map_get (p ∷ m) k ≡ Some p.1
map_get-here p m k same = cond-true (is_eq (key_cmp p.0 k)) (Some p.1) (map_get m k)
    (test_of_same p.0 k same)

pub map_get-past : (p : Pair) (m : List Pair) (k : List ℕ) → p.0 ≢ k → map_get (p ∷ m) k ≡ map_get m
    k
map_get-past p m k other = cond-false (is_eq (key_cmp p.0 k)) (Some p.1) (map_get m k)
    (test_of_other p.0 k other)

-- no pair of the list has the key
pub map_get-absent : (m : List Pair) (k : List ℕ) → AllByRecursion (λ p. p.0 ≢ k) m
    → map_get m k ≡ None
map_get-absent [] k others = refl
map_get-absent (p ∷ m) k others = map_get-past p m k others.0 ∙ map_get-absent m k others.1

pub map_get-below : (m : List Pair) (k : List ℕ) → AllBelow m k → map_get m k ≡ None
map_get-below m k below =
    map_get-absent m k
    (alls-weaker (λ p. key_cmp p.0 k ≡ Less) (λ p. p.0 ≢ k) (λ p. other_from_less p.0 k) m below)

pub map_get-above : (m : List Pair) (k : List ℕ) → AllAbove m k → map_get m k ≡ None
map_get-above m k above =
    map_get-absent m k
    (alls-weaker (λ p. key_cmp k p.0 ≡ Less) (λ p. p.0 ≢ k)
    (λ p less same. other_from_less k p.0 less (sym same)) m above)

-- if the front does not have the key, the back decides
pub map_get-append_absent : (front back : List Pair) (k : List ℕ) → map_get front k ≡ None
    → map_get (front ++ back) k ≡ map_get back k
map_get-append_absent [] back k none = refl
map_get-append_absent (p ∷ front) back k none =
    go (is_eq (key_cmp p.0 k)) none (map_get-append_absent front back k)
  where
    go : (t : Bool) → cond t (Some p.1) (map_get front k) ≡ None
        → (map_get front k ≡ None → map_get (front ++ back) k ≡ map_get back k) → cond t (Some p.1)
        (map_get (front ++ back) k) ≡ map_get back k
    go true e f = cc
    go false e f = f e

-- and if the back does not, the front
pub map_get-append_nothing : (front back : List Pair) (k : List ℕ) → map_get back k ≡ None
    → map_get (front ++ back) k ≡ map_get front k
map_get-append_nothing [] back k none = none
map_get-append_nothing (p ∷ front) back k none =
    ap (λ (o : Option (List ℕ)). cond (is_eq (key_cmp p.0 k)) (Some p.1) o)
    (map_get-append_nothing front back k none)

-- a filter by keys that passes the key keeps its value
pub map_get-filter : (test : List ℕ → Bool) (m : List Pair) (k : List ℕ) → test k ≡ true
    → map_get (filter (λ p. test p.0) m) k ≡ map_get m k
map_get-filter test [] k passes = refl
map_get-filter test (p ∷ m) k passes =
    let rest : List Pair = filter (λ (q : Pair). test q.0) m in
    let same_rest : map_get rest k ≡ map_get m k = map_get-filter test m k passes in
    by_same {G = map_get (filter (λ (q : Pair). test q.0) (p ∷ m)) k ≡ map_get (p ∷ m) k} p.0 k
    (λ same. ap (λ (l : List Pair). map_get l k)
    (cond-true (test p.0) (p ∷ rest) rest (ap test same ∙ passes)) ∙ map_get-here p rest k same
    ∙ sym (map_get-here p m k same))
    (λ other. cond_both (test p.0) (p ∷ rest) rest
    (λ (l : List Pair). map_get l k ≡ map_get (p ∷ m) k)
    (λ _. map_get-past p rest k other ∙ same_rest ∙ sym (map_get-past p m k other))
    (λ _. same_rest ∙ sym (map_get-past p m k other)))

-- and one that does not takes it away
pub map_get-filter_out : (test : List ℕ → Bool) (m : List Pair) (k : List ℕ) → test k ≡ false
    → map_get (filter (λ p. test p.0) m) k ≡ None
map_get-filter_out test m k fails =
    map_get-absent (filter (λ p. test p.0) m) k
    (alls-weaker (λ p. test p.0 ≡ true) (λ p. p.0 ≢ k)
    (λ p passes same. true≢false (sym passes ∙ ap test same ∙ fails)) (filter (λ p. test p.0) m)
    (alls-passes (λ p. test p.0) m))

-- ---- look after put and remove

-- the value of the key itself is the one that was put
pub map_get-put_same : (m : List Pair) (k v : List ℕ) → map_get (put m k v) k ≡ Some v
map_get-put_same m k v =
    let itself : key_cmp k k ≡ Equal = key_cmp-itself k in
    map_get-append_absent (filter (λ p. is_lt (key_cmp p.0 k)) m)
    ((k, v) ∷ filter (λ p. is_gt (key_cmp p.0 k)) m) k
    (map_get-filter_out (λ q. is_lt (key_cmp q k)) m k (ap is_lt itself))
    ∙ map_get-here (k, v) (filter (λ p. is_gt (key_cmp p.0 k)) m) k refl

-- another key has the value that it had
pub map_get-put_other : (m : List Pair) (k v q : List ℕ) → q ≢ k → map_get (put m k v) q ≡ map_get m
    q
map_get-put_other m k v q other =
    let front : List Pair = filter (λ (p : Pair). is_lt (key_cmp p.0 k)) m in
    let back : List Pair = filter (λ (p : Pair). is_gt (key_cmp p.0 k)) m in
    let past : map_get ((k, v) ∷ back) q ≡ map_get back q =
    map_get-past (k, v) back q (λ same. other (sym same)) in
    by_order {G = map_get (put m k v) q ≡ map_get m q} q k
    (λ less. map_get-append_nothing front ((k, v) ∷ back) q
    (past ∙ map_get-filter_out (λ a. is_gt (key_cmp a k)) m q (ap is_gt less)) ∙ map_get-filter
    (λ a. is_lt (key_cmp a k)) m q (ap is_lt less))
    (λ same. absurd (other same))
    (λ more. let greater : key_cmp q k ≡ Greater = greater_from_less k q more in
    map_get-append_absent front ((k, v) ∷ back) q
    (map_get-filter_out (λ a. is_lt (key_cmp a k)) m q (ap is_lt greater)) ∙ past
    ∙ map_get-filter (λ a. is_gt (key_cmp a k)) m q (ap is_gt greater))

-- a key that was removed has no value
pub map_get-remove_same : (m : List Pair) (k : List ℕ) → map_get (remove m k) k ≡ None
map_get-remove_same m k = map_get-filter_out (λ q. not (is_eq (key_cmp q k))) m k
    (ap (λ (r : Ordering). not (is_eq r)) (key_cmp-itself k))

-- another key has the value that it had
pub map_get-remove_other : (m : List Pair) (k q : List ℕ) → q ≢ k → map_get (remove m k) q ≡ map_get
    m q
map_get-remove_other m k q other = map_get-filter (λ a. not (is_eq (key_cmp a k))) m q
    (ap not (test_of_other q k other))

-- ---- what put and remove give is a map

pub AllBelow-less : (m : List Pair) (a b : List ℕ) → AllBelow m a → key_cmp a b ≡ Less
    → AllBelow m b
AllBelow-less m a b below less = alls-weaker (λ p. key_cmp p.0 a ≡ Less) (λ p. key_cmp p.0 b ≡ Less)
    (λ p e. less_chain p.0 a b e less) m below

pub AllAbove-less : (m : List Pair) (a b : List ℕ) → key_cmp a b ≡ Less → AllAbove m b
    → AllAbove m a
AllAbove-less m a b less above = alls-weaker (λ p. key_cmp b p.0 ≡ Less) (λ p. key_cmp a p.0 ≡ Less)
    (λ p. less_chain a b p.0 less) m above

-- the pairs that a put keeps are below and above its key
pub AllBelow-filter : (m : List Pair) (k : List ℕ)
    → AllBelow (filter (λ p. is_lt (key_cmp p.0 k)) m) k
AllBelow-filter m k =
    alls-weaker (λ p. is_lt (key_cmp p.0 k) ≡ true) (λ p. key_cmp p.0 k ≡ Less)
    (λ p. less_from_test p.0 k) (filter (λ p. is_lt (key_cmp p.0 k)) m)
    (alls-passes (λ p. is_lt (key_cmp p.0 k)) m)

pub AllAbove-filter : (m : List Pair) (k : List ℕ)
    → AllAbove (filter (λ p. is_gt (key_cmp p.0 k)) m) k
AllAbove-filter m k =
    alls-weaker (λ p. is_gt (key_cmp p.0 k) ≡ true) (λ p. key_cmp k p.0 ≡ Less)
    (λ p e. less_from_greater p.0 k (greater_from_test p.0 k e))
    (filter (λ p. is_gt (key_cmp p.0 k)) m) (alls-passes (λ p. is_gt (key_cmp p.0 k)) m)

pub IsAscending-filter : (test : Pair → Bool) (m : List Pair) → IsAscending m
    → IsAscending (filter test m)
IsAscending-filter test [] rise = tt
IsAscending-filter test (p ∷ m) rise =
    cond_both (test p) (p ∷ filter test m) (filter test m) IsAscending
    (λ _. (
      alls-filter (λ q. key_cmp p.0 q.0 ≡ Less) test m rise.0,
      IsAscending-filter test m
          rise.1,
    ))
    (λ _. IsAscending-filter test m rise.1)

-- pairs below a key, the key, and pairs above it rise
pub IsAscending-join : (front back : List Pair) (k v : List ℕ) → IsAscending front
    → IsAscending back → AllBelow front k → AllAbove back k → IsAscending (front ++ (k, v) ∷ back)
IsAscending-join [] back k v low high below above = (above, high)
IsAscending-join (p ∷ front) back k v low high below above = (
  alls-append (λ q. key_cmp p.0 q.0 ≡ Less) front ((k, v) ∷ back) low.0
      (below.0, AllAbove-less back p.0 k below.0 above),
  IsAscending-join front back k v low.1
      high below.1 above,
)

pub IsAscending-put : (m : List Pair) (k v : List ℕ) → IsAscending m → IsAscending (put m k v)
IsAscending-put m k v rise =
    IsAscending-join (filter (λ p. is_lt (key_cmp p.0 k)) m) (filter (λ p. is_gt (key_cmp p.0 k)) m)
    k v (IsAscending-filter (λ p. is_lt (key_cmp p.0 k)) m rise)
    (IsAscending-filter (λ p. is_gt (key_cmp p.0 k)) m rise) (AllBelow-filter m k)
    (AllAbove-filter m k)

pub IsMap-nil : IsMap []
IsMap-nil = record { ascending = tt; limits = tt }

pub IsMap-put : (m : List Pair) (k v : List ℕ) → IsMap m → IsKey k → IsValue v → IsMap (put m k v)
IsMap-put m k v map key value =
    let Fits : Pair → Type 0 = λ p. IsKey p.0 × IsValue p.1 in
    record {
      ascending = IsAscending-put m k v map.ascending;
      limits = alls-append Fits (filter (λ p. is_lt (key_cmp p.0 k)) m)
          ((k, v) ∷ filter (λ p. is_gt (key_cmp p.0 k)) m)
          (alls-filter Fits (λ p. is_lt (key_cmp p.0 k)) m map.limits)
          ((key, value), alls-filter Fits (λ p. is_gt (key_cmp p.0 k)) m map.limits);
    }

pub IsMap-remove : (m : List Pair) (k : List ℕ) → IsMap m → IsMap (remove m k)
IsMap-remove m k map = record {
  ascending = IsAscending-filter (λ p. not (is_eq (key_cmp p.0 k))) m map.ascending;
  limits = alls-filter (λ p. IsKey p.0 × IsValue p.1) (λ p. not (is_eq (key_cmp p.0 k))) m
      map.limits;
}

-- ---- look finds exactly the pairs of the map

pub map_get-each : (m : List Pair) → IsAscending m → AllByRecursion (λ p. map_get m p.0 ≡ Some p.1)
    m
map_get-each [] rise = tt
map_get-each (p ∷ m) rise = (
  map_get-here p m p.0 refl,
  alls-both (λ q. key_cmp p.0 q.0 ≡ Less)
      (λ q. map_get m q.0 ≡ Some q.1) (λ q. map_get (p ∷ m) q.0 ≡ Some q.1)
      (λ q less found. map_get-past p m q.0 (other_from_less p.0 q.0 less) ∙ found) m rise.0
      (map_get-each m rise.1),
)

pub map_get-contains : (m : List Pair) (k v : List ℕ) → IsAscending m → Contains m (k, v)
    → map_get m k ≡ Some v
map_get-contains m k v rise contains =
    let P : Pair → Type 0 = λ p. map_get m p.0 ≡ Some p.1 in
    All-contains P m (k, v) (All-from_recursion P m (map_get-each m rise)) contains

pub Contains-look : (m : List Pair) (k v : List ℕ) → map_get m k ≡ Some v → Contains m (k, v)
Contains-look [] k v found = absurd (let f : None ≡ Some v = found in cc)
Contains-look (p ∷ m) k v found = by_same {G = Contains (p ∷ m) (k, v)} p.0 k
    (λ same. (
      0,
      omega arith,
      let is : Some p.1 ≡ Some v = sym (map_get-here p m k same) ∙ found in
          let value : p.1 ≡ v = cc in λ i. (same i, value i),
    ))
    (λ other. Contains-append_right (p ∷ []) m (k, v)
    (Contains-look m k v (sym (map_get-past p m k other) ∙ found)))

-- ---- a map is determined by its look-ups

-- no list of greater keys looks up as one that begins with a lesser key does
first_differs : (p : Pair) (m n : List Pair) → AllAbove n p.0 → map_get (p ∷ m) p.0 ≡ map_get n p.0
    → ⊥
first_differs p m n above alike = let e : Some p.1 ≡ None = sym (map_get-here p m p.0 refl) ∙ alike
    ∙ map_get-above n p.0 above in cc

pub map_determined : (m n : List Pair) → IsAscending m → IsAscending n
    → ((k : List ℕ) → map_get m k ≡ map_get n k) → m ≡ n
map_determined [] [] low high alike = refl
map_determined [] (q ∷ n) low high alike = absurd (first_differs q n [] tt (sym (alike q.0)))
map_determined (p ∷ m) [] low high alike = absurd (first_differs p m [] tt (alike p.0))
map_determined (p ∷ m) (q ∷ n) low high alike = by_order {G = p ∷ m ≡ q ∷ n} p.0 q.0
    (λ less. absurd (first_differs p m (q ∷ n) (less, AllAbove-less n p.0 q.0 less high.0)
    (alike p.0)))
    (λ same.
    let is : Some p.1 ≡ Some q.1 = sym (map_get-here p m p.0 refl) ∙ alike p.0
    ∙ map_get-here q n p.0 (sym same) in
    let value : p.1 ≡ q.1 = cc in
    let rest : m ≡ n =
    map_determined m n low.1 high.1 (λ k. by_same {G = map_get m k ≡ map_get n k} p.0 k
    (λ here. map_get-above m k (subst (AllAbove m) here low.0)
    ∙ sym (map_get-above n k (subst (AllAbove n) (sym same ∙ here) high.0)))
    (λ other. sym (map_get-past p m k other) ∙ alike k ∙ map_get-past q n k
    (λ e. other (same ∙ e)))) in
    λ i. (same i, value i) ∷ rest i)
    (λ more. absurd (first_differs q n (p ∷ m) (more, AllAbove-less m q.0 p.0 more low.0)
    (sym (alike q.0))))

-- ---- changes that leave the map as it was

pub put-unchanged : (m : List Pair) (k v : List ℕ) → IsAscending m → map_get m k ≡ Some v
    → put m k v ≡ m
put-unchanged m k v rise found = map_determined (put m k v) m (IsAscending-put m k v rise) rise
    (λ q. by_same {G = map_get (put m k v) q ≡ map_get m q} q k
    (λ same. ap (map_get (put m k v)) same ∙ map_get-put_same m k v ∙ sym found ∙ ap (map_get m)
    (sym same)) (map_get-put_other m k v q))

pub remove-unchanged : (m : List Pair) (k : List ℕ) → IsAscending m → map_get m k ≡ None
    → remove m k ≡ m
remove-unchanged m k rise none =
    map_determined (remove m k) m (IsAscending-filter (λ p. not (is_eq (key_cmp p.0 k))) m rise)
    rise
    (λ q. by_same {G = map_get (remove m k) q ≡ map_get m q} q k
    (λ same. ap (map_get (remove m k)) same ∙ map_get-remove_same m k ∙ sym none
    ∙ ap (map_get m) (sym same)) (map_get-remove_other m k q))
