-- Reads in the order of keys: what a part of a map gives, and what the map of all shards.
use Rattle.mst_shards.proofs.Names.{◌≡◌, ℕ, zero, suc, ◌≤◌, ◌&&◌, Bool, true, false, not, cond, List, [], ◌∷◌, ◌++◌, length, filter, find, Option, Some, None, get_or, slice_get, refl, sym, ap, ◌∙◌, Ordering, Less, is_lt, is_gt, arith, true≢false, AllByRecursion, option_or, false_from_ne_true, IsKey, Pair, key_cmp, above, from_on, below, map_get, map_next, IsAscending, after, alls-weaker, by_order, less_chain, less_from_test, greater_from_less, map_get-above, least, least_first, greater, lesser, split_before}
use Rattle.std.proofs.Common.{option_to_list}
use Rattle.std.proofs.lemmas.Option.{slice_get_read}
use Rattle.mst_key.specs.History.{History}
use Rattle.mst_key.proofs.Ascending.{IsAscending-after}
use Rattle.mst_key.proofs.KeyOrder.{equal_from_same, other_from_less}
use Rattle.mst_key.proofs.MapLaws.{map_get-here, map_get-past, AllAbove-less}
use Rattle.mst_shards.proofs.Places.{not_below, less_than}

-- ---- filters and first elements

pub find_first : (test : Pair → Bool) (m : List Pair) → find test m ≡ slice_get (filter test m) 0
find_first test [] = refl
find_first test (p ∷ m) = go (test p) (find_first test m)
  where
    go : (b : Bool) → find test m ≡ slice_get (filter test m) 0
        → cond b (Some p) (find test m) ≡ slice_get (cond b (p ∷ filter test m) (filter test m)) 0
    go true rest = refl
    go false rest = rest

pub filter_filter : (test inner : Pair → Bool) (m : List Pair)
    → filter test (filter inner m) ≡ filter (λ p. inner p && test p) m
filter_filter test inner [] = refl
filter_filter test inner (p ∷ m) = go (inner p) (filter_filter test inner m)
  where
    go : (b : Bool) → filter test (filter inner m) ≡ filter (λ q. inner q && test q) m
        → filter test (cond b (p ∷ filter inner m) (filter inner m))
        ≡ cond (b && test p) (p ∷ filter (λ q. inner q && test q) m)
        (filter (λ q. inner q && test q) m)
    go true rest = ap (λ (l : List Pair). cond (test p) (p ∷ l) l) rest
    go false rest = rest

pub filter_same : (test other : Pair → Bool) (m : List Pair)
    → AllByRecursion (λ p. test p ≡ other p) m
    → filter test m ≡ filter other m
filter_same test other [] all = refl
filter_same test other (p ∷ m) all =
    ap (λ (b : Bool). cond b (p ∷ filter test m) (filter test m)) all.0
    ∙ ap (λ (l : List Pair). cond (other p) (p ∷ l) l) (filter_same test other m all.1)

pub find_nothing : (test : Pair → Bool) (m : List Pair) → AllByRecursion (λ p. test p ≡ false) m
    → find test m ≡ None
find_nothing test [] all = refl
find_nothing test (p ∷ m) all =
    ap (λ (b : Bool). cond b (Some p) (find test m)) all.0 ∙ find_nothing test m all.1

pub first_append : (xs ys : List Pair)
    → slice_get (xs ++ ys) 0 ≡ option_or (slice_get xs 0) (slice_get ys 0)
first_append [] ys = refl
first_append (x ∷ xs) ys = refl

-- ---- the first pair from a bound on, and below another

pub and_false : (b : Bool) → b && false ≡ false
and_false true = refl
and_false false = refl

pub below_later : (end : Option (List ℕ)) (a b : List ℕ) → key_cmp a b ≡ Less → below end a ≡ false
    → below end b ≡ false
below_later None a b less past = past
below_later (Some e) a b less past =
    false_from_ne_true (is_lt (key_cmp b e)) (λ t.
    true≢false (sym (ap is_lt (less_chain a b e less (less_from_test b e t))) ∙ past))

-- the first pair that passes a test decides whether one below the bound does
pub cut_find : (test : Pair → Bool) (end : Option (List ℕ)) (m : List Pair) → IsAscending m
    → find (λ p. below end p.0) (option_to_list (find test m))
    ≡ find (λ p. test p && below end p.0) m
cut_find test end [] rise = refl
cut_find test end (p ∷ m) rise = go (test p) (cut_find test end m rise.1)
  where
    within : (b : Bool) → below end p.0 ≡ b
        → cond b (Some p) None ≡ cond b (Some p) (find (λ q. test q && below end q.0) m)
    within true is = refl
    within false is =
        sym (find_nothing (λ q. test q && below end q.0) m
        (alls-weaker (λ q. key_cmp p.0 q.0 ≡ Less) (λ q. test q && below end q.0 ≡ false)
        (λ q less. ap (λ (b : Bool). test q && b) (below_later end p.0 q.0 less is)
        ∙ and_false (test q)) m rise.0))

    go : (b : Bool) → find (λ q. below end q.0) (option_to_list (find test m))
        ≡ find (λ q. test q && below end q.0) m
        → find (λ q. below end q.0) (option_to_list (cond b (Some p) (find test m)))
        ≡ cond (b && below end p.0) (Some p) (find (λ q. test q && below end q.0) m)
    go true rest = within (below end p.0) refl
    go false rest = rest

-- the pair of the bound itself is the first from the bound on
pub found_here : (m : List Pair) (k v : List ℕ) → IsAscending m → map_get m k ≡ Some v
    → find (λ p. from_on (Some k) p.0) m ≡ Some (k, v)
found_here [] k v rise is = absurd (let f : None ≡ Some v = is in cc)
found_here (p ∷ m) k v rise is =
    by_order p.0 k
    (λ less. ap (λ (o : Ordering). cond (not (is_lt o)) (Some p)
    (find (λ q. from_on (Some k) q.0) m)) less
    ∙ found_here m k v rise.1 (sym (map_get-past p m k (other_from_less p.0 k less)) ∙ is))
    (λ same.
    let here : Some p.1 ≡ Some v = sym (map_get-here p m k same) ∙ is in
    let value : p.1 ≡ v = cc in
    let first : Pair = (k, p.1) in
    ap (λ (o : Ordering). cond (not (is_lt o)) (Some p)
    (find (λ q. from_on (Some k) q.0) m)) (equal_from_same p.0 k same)
    ∙ ap (λ (a : List ℕ). let q : Pair = (a, p.1) in Some q) same
    ∙ ap (λ (b : List ℕ). let q : Pair = (k, b) in Some q) value)
    (λ more. absurd (
    let none = map_get-above (p ∷ m) k (more, AllAbove-less m k p.0 more rise.0) in
    let f : None ≡ Some v = sym none ∙ is in cc))

-- without a pair of the bound, that from it on is the one above it
pub found_past : (m : List Pair) (k : List ℕ) → map_get m k ≡ None
    → find (λ p. above (Some k) p.0) m ≡ find (λ p. from_on (Some k) p.0) m
found_past [] k is = refl
found_past (p ∷ m) k is =
    by_order p.0 k
    (λ less. let past = other_from_less p.0 k less in
    ap (λ (o : Ordering). cond (is_gt o) (Some p) (find (λ q. above (Some k) q.0) m)) less
    ∙ found_past m k (sym (map_get-past p m k past) ∙ is)
    ∙ sym (ap (λ (o : Ordering). cond (not (is_lt o)) (Some p)
    (find (λ q. from_on (Some k) q.0) m)) less))
    (λ same. absurd (let f : Some p.1 ≡ None = sym (map_get-here p m k same) ∙ is in cc))
    (λ more. let up = greater_from_less k p.0 more in
    ap (λ (o : Ordering). cond (is_gt o) (Some p) (find (λ q. above (Some k) q.0) m)) up
    ∙ sym (ap (λ (o : Ordering). cond (not (is_lt o)) (Some p)
    (find (λ q. from_on (Some k) q.0) m)) up))

-- ---- as the reads of a version ask

pub found_at : (h : History) (k v : List ℕ) → map_get (after h) k ≡ Some v
    → Some (k, v) ≡ find (λ (p : Pair). from_on (Some k) p.0) (after h)
found_at h k v is = sym (found_here (after h) k v (IsAscending-after h) is)

pub found_above : (h : History) (k : List ℕ) (o : Option Pair) → map_get (after h) k ≡ None
    → o ≡ map_next (after h) (Some k)
    → o ≡ find (λ (p : Pair). from_on (Some k) p.0) (after h)
found_above h k o is found = found ∙ found_past (after h) k is

pub cut_from : (h : History) (k : List ℕ) (end : Option (List ℕ)) (o r : Option Pair)
    → o ≡ find (λ (p : Pair). from_on (Some k) p.0) (after h)
    → r ≡ find (λ (p : Pair). below end p.0) (option_to_list o)
    → r ≡ find (λ (p : Pair). from_on (Some k) p.0 && below end p.0) (after h)
cut_from h k end o r found cut =
    cut ∙ ap (λ (x : Option Pair). find (λ (p : Pair). below end p.0) (option_to_list x)) found
    ∙ cut_find (λ (p : Pair). from_on (Some k) p.0) end (after h) (IsAscending-after h)

pub cut_above : (h : History) (bound end : Option (List ℕ)) (o r : Option Pair)
    → o ≡ map_next (after h) bound
    → r ≡ find (λ (p : Pair). below end p.0) (option_to_list o)
    → r ≡ find (λ (p : Pair). above bound p.0 && below end p.0) (after h)
cut_above h bound end o r found cut =
    cut ∙ ap (λ (x : Option Pair). find (λ (p : Pair). below end p.0) (option_to_list x)) found
    ∙ cut_find (λ (p : Pair). above bound p.0) end (after h) (IsAscending-after h)

-- ---- bounds of a shard and of a read together

pub greater_is : (a b : Option (List ℕ)) (k : List ℕ)
    → from_on (greater a b) k ≡ (from_on a k && from_on b k)
greater_is None b k = refl
greater_is (Some a) None k = and_true (from_on (Some a) k)
  where
    and_true : (t : Bool) → t ≡ (t && true)
    and_true true = refl
    and_true false = refl
greater_is (Some a) (Some b) k = go (is_lt (key_cmp a b)) refl
  where
    two : (s t : Bool) → (t ≡ false → s ≡ false) → not t ≡ (not s && not t)
    two true true f = refl
    two false t f = refl
    two true false f = let g : true ≡ false = f refl in absurd (true≢false g)

    one : (s t : Bool) → (s ≡ false → t ≡ false) → not s ≡ (not s && not t)
    one true t f = refl
    one false true f = let g : true ≡ false = f refl in absurd (true≢false g)
    one false false f = refl

    go : (t : Bool) → is_lt (key_cmp a b) ≡ t → from_on (cond t (Some b) (Some a)) k
        ≡ (from_on (Some a) k && from_on (Some b) k)
    go true less = two (is_lt (key_cmp k a)) (is_lt (key_cmp k b))
        (λ from. not_below k a b from (less_from_test a b less))
    go false past = one (is_lt (key_cmp k a)) (is_lt (key_cmp k b))
        (λ from. false_from_ne_true (is_lt (key_cmp k b)) (λ t.
        true≢false (sym (ap is_lt (less_than k a b t past)) ∙ from)))

pub lesser_is : (a b : Option (List ℕ)) (k : List ℕ)
    → below (lesser a b) k ≡ (below a k && below b k)
lesser_is None b k = refl
lesser_is (Some a) None k = and_true (below (Some a) k)
  where
    and_true : (t : Bool) → t ≡ (t && true)
    and_true true = refl
    and_true false = refl
lesser_is (Some a) (Some b) k = go (is_lt (key_cmp a b)) refl
  where
    one : (s t : Bool) → (s ≡ true → t ≡ true) → s ≡ (s && t)
    one true t f = sym (f refl)
    one false t f = refl

    two : (s t : Bool) → (t ≡ true → s ≡ true) → t ≡ (s && t)
    two true t f = refl
    two false true f = sym (f refl)
    two false false f = refl

    go : (t : Bool) → is_lt (key_cmp a b) ≡ t → below (cond t (Some a) (Some b)) k
        ≡ (below (Some a) k && below (Some b) k)
    go true less = one (is_lt (key_cmp k a)) (is_lt (key_cmp k b))
        (λ to. ap is_lt (less_chain k a b (less_from_test k a to) (less_from_test a b less)))
    go false past = two (is_lt (key_cmp k a)) (is_lt (key_cmp k b))
        (λ to. ap is_lt (less_than k a b to past))

pub shuffle : (a b c d : Bool) → (a && b) && (c && d) ≡ (c && a) && (d && b)
shuffle true true true true = refl
shuffle true true true false = refl
shuffle true true false true = refl
shuffle true true false false = refl
shuffle true false true true = refl
shuffle true false true false = refl
shuffle true false false true = refl
shuffle true false false false = refl
shuffle false true true true = refl
shuffle false true true false = refl
shuffle false true false true = refl
shuffle false true false false = refl
shuffle false false true true = refl
shuffle false false true false = refl
shuffle false false false true = refl
shuffle false false false false = refl

-- the lower bound of a shard binds a key as the split before it does
pub from_split : (splits : List (List ℕ)) (i : ℕ) (x k : List ℕ) → IsKey k → i ≤ length splits
    → x ≡ get_or (least ∷ splits) i x → from_on (Some x) k ≡ from_on (split_before splits i) k
from_split splits zero x k is l from =
    ap (λ (y : List ℕ). not (is_lt (key_cmp k y))) from ∙ ap not (least_first k is)
from_split splits (suc i) x k is l from =
    sym (ap (λ (o : Option (List ℕ)). from_on o k)
    (slice_get_read splits (length splits) i x refl (omega (arith, l)) from))
