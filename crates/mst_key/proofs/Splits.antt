-- What `map_get`, `put` and `remove` give at a place of the list: between the pairs below a key and
-- the pairs above it.
use Rattle.mst_key.proofs.Names.{◌≡◌, ℕ, Bool, refl, subst, true, false, not, List, [], ◌∷◌, ◌++◌, Some, None, ◌+◌, length, length-append, arith, filter, sym, ap, ◌∙◌, append_assoc, Ordering, Less, Equal, is_eq, is_lt, is_gt, append-nil, filter-append, cond-true, cond-false, Pair, key_cmp, AllBelow, AllAbove, IsAscending, map_get, put, remove}
use Rattle.mst_key.proofs.Alls.{alls-front, alls-back, alls-weaker, filter-whole, filter-nothing}
use Rattle.mst_key.proofs.KeyOrder.{by_order, equal_from_same, same_from_equal, greater_from_less}
use Rattle.mst_key.proofs.MapLaws.{put-unchanged, remove-unchanged, AllAbove-less, map_get-here, map_get-below, map_get-above, map_get-append_absent, map_get-append_nothing}

-- ---- the filters of `put` and `remove` on the pairs below a key, on those above it, and on the
-- pair of the key itself

pub below-kept : (m : List Pair) (k : List ℕ) → AllBelow m k → filter (λ p. is_lt (key_cmp p.0 k)) m
    ≡ m
below-kept m k below = filter-whole (λ p. is_lt (key_cmp p.0 k)) m
    (alls-weaker (λ p. key_cmp p.0 k ≡ Less) (λ p. is_lt (key_cmp p.0 k) ≡ true) (λ p e. ap is_lt e)
    m below)

pub below-dropped : (m : List Pair) (k : List ℕ) → AllBelow m k
    → filter (λ p. is_gt (key_cmp p.0 k)) m ≡ []
below-dropped m k below = filter-nothing (λ p. is_gt (key_cmp p.0 k)) m
    (alls-weaker (λ p. key_cmp p.0 k ≡ Less) (λ p. is_gt (key_cmp p.0 k) ≡ false)
    (λ p e. ap is_gt e) m below)

pub below-stays : (m : List Pair) (k : List ℕ) → AllBelow m k → remove m k ≡ m
below-stays m k below = filter-whole (λ p. not (is_eq (key_cmp p.0 k))) m
    (alls-weaker (λ p. key_cmp p.0 k ≡ Less) (λ p. not (is_eq (key_cmp p.0 k)) ≡ true)
    (λ p e. ap (λ (r : Ordering). not (is_eq r)) e) m below)

pub above-kept : (m : List Pair) (k : List ℕ) → AllAbove m k → filter (λ p. is_gt (key_cmp p.0 k)) m
    ≡ m
above-kept m k above = filter-whole (λ p. is_gt (key_cmp p.0 k)) m
    (alls-weaker (λ p. key_cmp k p.0 ≡ Less) (λ p. is_gt (key_cmp p.0 k) ≡ true)
    (λ p e. ap is_gt (greater_from_less k p.0 e)) m above)

pub above-dropped : (m : List Pair) (k : List ℕ) → AllAbove m k
    → filter (λ p. is_lt (key_cmp p.0 k)) m ≡ []
above-dropped m k above = filter-nothing (λ p. is_lt (key_cmp p.0 k)) m
    (alls-weaker (λ p. key_cmp k p.0 ≡ Less) (λ p. is_lt (key_cmp p.0 k) ≡ false)
    (λ p e. ap is_lt (greater_from_less k p.0 e)) m above)

pub above-stays : (m : List Pair) (k : List ℕ) → AllAbove m k → remove m k ≡ m
above-stays m k above = filter-whole (λ p. not (is_eq (key_cmp p.0 k))) m
    (alls-weaker (λ p. key_cmp k p.0 ≡ Less) (λ p. not (is_eq (key_cmp p.0 k)) ≡ true)
    (λ p e. ap (λ (r : Ordering). not (is_eq r)) (greater_from_less k p.0 e)) m above)

-- ---- a list in two parts, of which one is all below or all above the key: the other decides

pub map_get-right : (front back : List Pair) (k : List ℕ) → AllBelow front k
    → map_get (front ++ back) k ≡ map_get back k
map_get-right front back k below = map_get-append_absent front back k (map_get-below front k below)

pub map_get-left : (front back : List Pair) (k : List ℕ) → AllAbove back k → map_get (front ++ back)
    k ≡ map_get front k
map_get-left front back k above = map_get-append_nothing front back k (map_get-above back k above)

pub put-right : (front back : List Pair) (k v : List ℕ) → AllBelow front k → put (front ++ back) k v
    ≡ front ++ put back k v
put-right front back k v below =
    let lesser : List Pair = filter (λ (p : Pair). is_lt (key_cmp p.0 k)) back in
    let greater : List Pair = filter (λ (p : Pair). is_gt (key_cmp p.0 k)) back in
    let low : filter (λ (p : Pair). is_lt (key_cmp p.0 k)) (front ++ back) ≡ front ++ lesser =
    filter-append (λ (p : Pair). is_lt (key_cmp p.0 k)) front back
    ∙ ap (λ (l : List Pair). l ++ lesser) (below-kept front k below) in
    let high : filter (λ (p : Pair). is_gt (key_cmp p.0 k)) (front ++ back) ≡ greater =
    filter-append (λ (p : Pair). is_gt (key_cmp p.0 k)) front back
    ∙ ap (λ (l : List Pair). l ++ greater) (below-dropped front k below) in
    (λ i. low i ++ (k, v) ∷ high i) ∙ append_assoc front lesser ((k, v) ∷ greater)

pub put-left : (front back : List Pair) (k v : List ℕ) → AllAbove back k → put (front ++ back) k v
    ≡ put front k v ++ back
put-left front back k v above =
    let lesser : List Pair = filter (λ (p : Pair). is_lt (key_cmp p.0 k)) front in
    let greater : List Pair = filter (λ (p : Pair). is_gt (key_cmp p.0 k)) front in
    let low : filter (λ (p : Pair). is_lt (key_cmp p.0 k)) (front ++ back) ≡ lesser =
    filter-append (λ (p : Pair). is_lt (key_cmp p.0 k)) front back
    ∙ ap (λ (l : List Pair). lesser ++ l) (above-dropped back k above) ∙ append-nil lesser in
    let high : filter (λ (p : Pair). is_gt (key_cmp p.0 k)) (front ++ back) ≡ greater ++ back =
    filter-append (λ (p : Pair). is_gt (key_cmp p.0 k)) front back
    ∙ ap (λ (l : List Pair). greater ++ l) (above-kept back k above) in
    (λ i. low i ++ (k, v) ∷ high i) ∙ sym (append_assoc lesser ((k, v) ∷ greater) back)

pub remove-right : (front back : List Pair) (k : List ℕ) → AllBelow front k → remove (front ++ back)
    k ≡ front ++ remove back k
remove-right front back k below = filter-append (λ (p : Pair). not (is_eq (key_cmp p.0 k))) front
    back ∙ ap (λ (l : List Pair). l ++ remove back k) (below-stays front k below)

pub remove-left : (front back : List Pair) (k : List ℕ) → AllAbove back k → remove (front ++ back) k
    ≡ remove front k ++ back
remove-left front back k above = filter-append (λ (p : Pair). not (is_eq (key_cmp p.0 k))) front
    back ∙ ap (λ (l : List Pair). remove front k ++ l) (above-stays back k above)

-- ---- a list whose first pair has the key, and the others greater ones

pub put-first : (back : List Pair) (k k' v w : List ℕ) → key_cmp k' k ≡ Equal → AllAbove back k
    → put ((k', w) ∷ back) k v ≡ (k, v) ∷ back
put-first back k k' v w equal above =
    let lesser : List Pair = filter (λ (p : Pair). is_lt (key_cmp p.0 k)) back in
    let greater : List Pair = filter (λ (p : Pair). is_gt (key_cmp p.0 k)) back in
    let low : filter (λ (p : Pair). is_lt (key_cmp p.0 k)) ((k', w) ∷ back) ≡ [] =
    cond-false (is_lt (key_cmp k' k)) ((k', w) ∷ lesser) lesser (ap is_lt equal)
    ∙ above-dropped back k above in
    let high : filter (λ (p : Pair). is_gt (key_cmp p.0 k)) ((k', w) ∷ back) ≡ back =
    cond-false (is_gt (key_cmp k' k)) ((k', w) ∷ greater) greater (ap is_gt equal)
    ∙ above-kept back k above in
    λ i. low i ++ (k, v) ∷ high i

pub put-before : (back : List Pair) (k v : List ℕ) → AllAbove back k → put back k v ≡ (k, v) ∷ back
put-before back k v above = λ i. above-dropped back k above i ++ (k, v) ∷ above-kept back k above i

pub remove-first : (back : List Pair) (k k' w : List ℕ) → key_cmp k' k ≡ Equal → AllAbove back k
    → remove ((k', w) ∷ back) k ≡ back
remove-first back k k' w equal above =
    cond-false (not (is_eq (key_cmp k' k))) ((k', w) ∷ remove back k) (remove back k)
    (ap (λ (r : Ordering). not (is_eq r)) equal) ∙ above-stays back k above

-- ---- a list that does not have the key, split where it would stand

module _ (m front back : List Pair) (k : List ℕ) (split : m ≡ front ++ back)
    (below : AllBelow front k) (above : AllAbove back k) where
  pub put-between : (v : List ℕ) → put m k v ≡ front ++ (k, v) ∷ back
  put-between v = ap (λ (l : List Pair). put l k v) split ∙ put-right front back k v below
      ∙ ap (λ (l : List Pair). front ++ l) (put-before back k v above)

-- ---- a list that has the key, split at its pair

module _ (m front back : List Pair) (k k' w : List ℕ) (split : m ≡ front ++ (k', w) ∷ back)
    (equal : key_cmp k' k ≡ Equal) (below : AllBelow front k) (above : AllAbove back k) where
  pub put-at : (v : List ℕ) → put m k v ≡ front ++ (k, v) ∷ back
  put-at v = ap (λ (l : List Pair). put l k v) split ∙ put-right front ((k', w) ∷ back) k v below
      ∙ ap (λ (l : List Pair). front ++ l) (put-first back k k' v w equal above)

  pub remove-at : remove m k ≡ front ++ back
  remove-at = ap (λ (l : List Pair). remove l k) split ∙ remove-right front ((k', w) ∷ back) k below
      ∙ ap (λ (l : List Pair). front ++ l) (remove-first back k k' w equal above)

-- ---- an ascending list at each of its places

pub IsAscending-front : (front back : List Pair) → IsAscending (front ++ back) → IsAscending front
IsAscending-front [] back rise = tt
IsAscending-front (p ∷ front) back rise = (
  alls-front (λ q. key_cmp p.0 q.0 ≡ Less) front back rise.0,
  IsAscending-front front back
      rise.1,
)

pub IsAscending-back : (front back : List Pair) → IsAscending (front ++ back) → IsAscending back
IsAscending-back [] back rise = rise
IsAscending-back (p ∷ front) back rise = IsAscending-back front back rise.1

-- the pairs before a pair are below it, and those after it above
pub IsAscending-below : (front back : List Pair) (p : Pair) → IsAscending (front ++ p ∷ back)
    → AllBelow front p.0
IsAscending-below [] back p rise = tt
IsAscending-below (q ∷ front) back p rise = (
  (alls-back (λ r. key_cmp q.0 r.0 ≡ Less) front (p ∷ back) rise.0).0,
  IsAscending-below front
      back p rise.1,
)

pub IsAscending-above : (front back : List Pair) (p : Pair) → IsAscending (front ++ p ∷ back)
    → AllAbove back p.0
IsAscending-above front back p rise = (IsAscending-back front (p ∷ back) rise).0

-- an ascending list without a key: the pairs below it, and then those above
pub remove-parts : (m : List Pair) (k : List ℕ) → IsAscending m → remove m k ≡ filter
    (λ p. is_lt (key_cmp p.0 k)) m ++ filter (λ p. is_gt (key_cmp p.0 k)) m
remove-parts [] k rise = refl
remove-parts (p ∷ m) k rise =
    let is_less : Pair → Bool = λ q. is_lt (key_cmp q.0 k) in
    let is_more : Pair → Bool = λ q. is_gt (key_cmp q.0 k) in
    let is_other : Pair → Bool = λ q. not (is_eq (key_cmp q.0 k)) in
    by_order {G = remove (p ∷ m) k ≡ filter is_less (p ∷ m) ++ filter is_more (p ∷ m)} p.0 k
    (λ less.
    let stays : remove (p ∷ m) k ≡ p ∷ remove m k =
    cond-true (is_other p) (p ∷ remove m k) (remove m k)
    (ap (λ (r : Ordering). not (is_eq r)) less) in
    let low : filter is_less (p ∷ m) ≡ p ∷ filter is_less m =
    cond-true (is_less p) (p ∷ filter is_less m) (filter is_less m) (ap is_lt less) in
    let high : filter is_more (p ∷ m) ≡ filter is_more m =
    cond-false (is_more p) (p ∷ filter is_more m) (filter is_more m) (ap is_gt less) in
    stays ∙ ap (λ (l : List Pair). p ∷ l) (remove-parts m k rise.1)
    ∙ (λ i. sym low i ++ sym high i))
    (λ same.
    let above : AllAbove m k = subst (AllAbove m) same rise.0 in
    let equal : key_cmp p.0 k ≡ Equal = equal_from_same p.0 k same in
    let low : filter is_less (p ∷ m) ≡ [] = cond-false (is_less p) (p ∷ filter is_less m)
    (filter is_less m) (ap is_lt equal) ∙ above-dropped m k above in
    let high : filter is_more (p ∷ m) ≡ m = cond-false (is_more p) (p ∷ filter is_more m)
    (filter is_more m) (ap is_gt equal) ∙ above-kept m k above in
    remove-first m k p.0 p.1 equal above ∙ (λ i. sym low i ++ sym high i))
    (λ more.
    let above : AllAbove (p ∷ m) k = (more, AllAbove-less m k p.0 more rise.0) in
    above-stays (p ∷ m) k above
    ∙ (λ i. sym (above-dropped (p ∷ m) k above) i ++ sym (above-kept (p ∷ m) k above) i))

-- an ascending list is the pairs below a key, the key's own pair if it has one, and the pairs above
-- it
pub parts_absent : (m : List Pair) (k : List ℕ) → IsAscending m → map_get m k ≡ None
    → m ≡ filter (λ p. is_lt (key_cmp p.0 k)) m ++ filter (λ p. is_gt (key_cmp p.0 k)) m
parts_absent m k rise none = sym (remove-unchanged m k rise none) ∙ remove-parts m k rise

pub parts_found : (m : List Pair) (k v : List ℕ) → IsAscending m → map_get m k ≡ Some v
    → m ≡ filter (λ p. is_lt (key_cmp p.0 k)) m ++ (k, v) ∷ filter (λ p. is_gt (key_cmp p.0 k)) m
parts_found m k v rise found = sym (put-unchanged m k v rise found)
