-- The least key above a bound, and the value of a key, in the map of all shards.
use Rattle.mst_shards.proofs.Names.{◌≡◌, ℕ, zero, suc, ◌+◌, ◌-◌, ◌<◌, ◌≤◌, ◌&&◌, Bool, true, false, not, List, [], ◌∷◌, ◌++◌, length, drop, find, Option, Some, None, get_or, slice_get, refl, sym, ap, ◌∙◌, subst, Less, is_lt, is_gt, arith, true≢false, ⊎_elim, AllByRecursion, option_or, drop_of_length-le, false_from_ne_true, IsKey, IsValue, Pair, key_cmp, above, below, map_get, map_next, IsMap, AllAbove, after, alls-weaker, filter-whole, less_chain, less_from_test, greater_from_less, map_get-above, Known, least, AreSplits, is_in, part_of, least_first, place, union, maps_of, map_of, sharding, first_place, union_from}
use Rattle.std.proofs.lemmas.List.Elements.{All-from_recursion}
use Rattle.std.proofs.lemmas.List.Folds.{find-append}
use Rattle.mst_key.proofs.KeyOrder.{greater_from_test, less_from_greater}
use Rattle.mst_sharded_proof.specs.Shards.{shards as shards_at}
use Rattle.mst_shards.proofs.Places.{more_than, place_bound}
use Rattle.mst_shards.proofs.Unions.{shard, union_nothing, union_above, union_at, union_get, skip, behind_above, map_at, maps_count}
use Rattle.mst_shards.proofs.Spans.{find_first, filter_filter, filter_same, first_append, and_false}

-- ---- what a shard gives a read

-- the map of the shard at a place is a map
pub map_here : (ps : List Known) (i : ℕ) (p : Known) → i < length ps → p ≡ get_or ps i p
    → AllByRecursion (λ (q : Known). IsMap (after q.seen)) ps → IsMap (after p.seen)
map_here ps i p l is maps =
    subst (λ (q : Known). IsMap (after q.seen)) (sym is)
    (All-from_recursion (λ (q : Known). IsMap (after q.seen)) ps maps i p l)

-- what is left from a shard on is its part and what is left behind it
pub left_at : (splits : List (List ℕ)) (ps : List Known) (i : ℕ) (x : List ℕ)
    (h : Option (List ℕ)) (p : Known) → length ps ≡ length splits + 1 → i < length ps
    → x ≡ get_or (least ∷ splits) i x → h ≡ slice_get splits i → p ≡ get_or ps i p
    → union_from i splits ps ≡ part_of (after p.seen) (shard x h) ++ union_from (suc i) splits ps
left_at splits ps i x h p count l from to is =
    let many = maps_count ps in
    union_at least splits (maps_of ps) i x h (after p.seen) (many ∙ count) (omega (arith, many, l))
    from to (map_at ps i p l is)

-- and nothing is left behind the last
pub left_nothing : (splits : List (List ℕ)) (ps : List Known) (i : ℕ) → length ps ≤ i
    → union_from i splits ps ≡ []
left_nothing splits ps i l =
    let many = maps_count ps in
    ap (union (drop i (shards_at splits)))
    (drop_of_length-le (maps_of ps) (omega (arith, many, l)))
    ∙ union_nothing (drop i (shards_at splits))

-- ---- the lower bound of a shard

-- behind the first shard it is the split before
pub low_behind : (splits : List (List ℕ)) (i : ℕ) (x : List ℕ) → 0 < i
    → x ≡ get_or splits (i - 1) x → x ≡ get_or (least ∷ splits) i x
low_behind splits zero x l is = absurd (omega (arith, l))
low_behind splits (suc i) x l is =
    let e : suc i - 1 ≡ i = omega arith in is ∙ ap (λ (n : ℕ). get_or splits n x) e

-- every shard has one
pub low_exists : (xs : List (List ℕ)) (i : ℕ) → i < length xs
    → get_or xs i [] ≡ get_or xs i (get_or xs i [])
low_exists [] i l = absurd (omega (arith, l))
low_exists (x ∷ xs) zero l = refl
low_exists (x ∷ xs) (suc i) l = low_exists xs i (omega (arith, l))

-- ---- looks

-- no key of a map is below the least one
above_least : (m : List Pair) (k : List ℕ) → IsMap m → key_cmp k least ≡ Less → AllAbove m k
above_least m k map less =
    alls-weaker (λ (q : Pair). IsKey q.0 × IsValue q.1) (λ (q : Pair). key_cmp k q.0 ≡ Less)
    (λ q fits. more_than q.0 k least (least_first q.0 fits.0) less) m map.limits

-- the shard of a key has its value
pub routed_get : (splits : List (List ℕ)) (ps : List Known) (k : List ℕ) (i : ℕ) (p : Known)
    → AreSplits least splits → length ps ≡ length splits + 1 → i ≡ place splits k
    → p ≡ get_or ps i p → IsMap (after p.seen)
    → map_get (after p.seen) k ≡ map_get (map_of (sharding splits ps)) k
routed_get splits ps k i p rising count at is map =
    go (is_lt (key_cmp k least)) refl
  where
    go : (b : Bool) → is_lt (key_cmp k least) ≡ b
        → map_get (after p.seen) k ≡ map_get (map_of (sharding splits ps)) k
    go true low =
        let less = less_from_test k least low in
        map_get-above (after p.seen) k (above_least (after p.seen) k map less)
        ∙ sym (map_get-above (union (shards_at splits) (maps_of ps)) k
        (union_above least splits (maps_of ps) k rising less))
    go false from =
        sym (union_get least splits ps k p rising count from
        (is ∙ ap (λ (j : ℕ). get_or ps j p) at))

-- ---- the least key above a bound

skip_next : (splits : List (List ℕ)) (ms : List (List Pair)) (bound : Option (List ℕ))
    → AreSplits least splits → map_next (union (shards_at splits) ms) bound
    ≡ map_next (union (drop (first_place splits bound) (shards_at splits))
    (drop (first_place splits bound) ms)) bound
skip_next splits ms None rising = refl
skip_next splits ms (Some k) rising =
    let test : Pair → Bool = λ p. above (Some k) p.0 in
    find_first test (union (shards_at splits) ms)
    ∙ ap (λ (l : List Pair). slice_get l 0)
    (skip test least splits ms k (place splits k) rising (omega arith) (λ p less. ap is_gt less))
    ∙ sym (find_first test
    (union (drop (place splits k) (shards_at splits)) (drop (place splits k) ms)))

inner : (l b a : Bool) → (a ≡ true → l ≡ false) → (not l && b) && a ≡ (a && b)
inner l b false low = and_false (not l && b)
inner l true true low = ap (λ (t : Bool). (not t && true) && true) (low refl)
inner l false true low = ap (λ (t : Bool). (not t && false) && true) (low refl)

-- in the shard of the bound, a key above the bound is not below the shard's
not_below_shard : (splits : List (List ℕ)) (bound : Option (List ℕ)) (x k : List ℕ)
    → x ≡ get_or (least ∷ splits) (first_place splits bound) x → IsKey k
    → above bound k ≡ true → is_lt (key_cmp k x) ≡ false
not_below_shard splits None x k low is up =
    ap (λ (y : List ℕ). is_lt (key_cmp k y)) low ∙ least_first k is
not_below_shard splits (Some b) x k low is up =
    ⊎_elim
    (λ (same : x ≡ least). ap (λ (y : List ℕ). is_lt (key_cmp k y)) same ∙ least_first k is)
    (λ (from : is_lt (key_cmp b x) ≡ false). false_from_ne_true (is_lt (key_cmp k x)) (λ t.
    let more = less_from_greater k b (greater_from_test k b up) in
    true≢false (sym (ap is_lt (less_chain b k x more (less_from_test k x t))) ∙ from)))
    (place_bound least splits b x low)

next_part : (splits : List (List ℕ)) (bound : Option (List ℕ)) (x : List ℕ)
    (h : Option (List ℕ)) (m : List Pair)
    → x ≡ get_or (least ∷ splits) (first_place splits bound) x → IsMap m
    → find (λ q. above bound q.0) (part_of m (shard x h))
    ≡ find (λ q. above bound q.0 && below h q.0) m
next_part splits bound x h m low map =
    let test : Pair → Bool = λ q. above bound q.0 in
    let both : Pair → Bool = λ q. above bound q.0 && below h q.0 in
    find_first test (part_of m (shard x h))
    ∙ ap (λ (l : List Pair). slice_get l 0)
    (filter_filter test (λ q. is_in (shard x h) q.0) m
    ∙ filter_same (λ q. is_in (shard x h) q.0 && test q) both m
    (alls-weaker (λ (q : Pair). IsKey q.0 × IsValue q.1)
    (λ (q : Pair). (is_in (shard x h) q.0 && test q) ≡ both q)
    (λ q fits. inner (is_lt (key_cmp q.0 x)) (below h q.0) (above bound q.0)
    (not_below_shard splits bound x q.0 low fits.0)) m map.limits))
    ∙ sym (find_first both m)

-- all that is left behind the shard of the bound is above it
next_left : (splits : List (List ℕ)) (ms : List (List Pair)) (bound : Option (List ℕ))
    → AreSplits least splits
    → find (λ q. above bound q.0) (union (drop (suc (first_place splits bound)) (shards_at splits))
    (drop (suc (first_place splits bound)) ms))
    ≡ slice_get (union (drop (suc (first_place splits bound)) (shards_at splits))
    (drop (suc (first_place splits bound)) ms)) 0
next_left splits ms None rising =
    let left = union (drop 1 (shards_at splits)) (drop 1 ms) in
    find_first (λ q. true) left
    ∙ ap (λ (l : List Pair). slice_get l 0) (filter-whole (λ q. true) left (all_pass left))
  where
    all_pass : (l : List Pair) → AllByRecursion (λ q. true ≡ true) l
    all_pass [] = tt
    all_pass (q ∷ l) = (refl, all_pass l)
next_left splits ms (Some k) rising =
    let i = suc (place splits k) in
    let left = union (drop i (shards_at splits)) (drop i ms) in
    find_first (λ q. above (Some k) q.0) left
    ∙ ap (λ (l : List Pair). slice_get l 0) (filter-whole (λ q. above (Some k) q.0) left
    (alls-weaker (λ (q : Pair). key_cmp k q.0 ≡ Less)
    (λ (q : Pair). above (Some k) q.0 ≡ true)
    (λ q less. ap is_gt (greater_from_less k q.0 less)) left
    (behind_above least splits ms k i rising (omega arith))))

-- the shard of the bound, and behind it the first pair of all
pub next_at : (splits : List (List ℕ)) (ps : List Known) (bound : Option (List ℕ)) (i : ℕ)
    (x : List ℕ) (h : Option (List ℕ)) (p : Known) → AreSplits least splits
    → length ps ≡ length splits + 1 → i ≡ first_place splits bound → i < length ps
    → x ≡ get_or (least ∷ splits) i x → h ≡ slice_get splits i → p ≡ get_or ps i p
    → IsMap (after p.seen)
    → option_or (find (λ q. above bound q.0 && below h q.0) (after p.seen))
    (slice_get (union_from (i + 1) splits ps) 0) ≡ map_next (map_of (sharding splits ps)) bound
next_at splits ps bound i x h p rising count at l low high is map =
    let j = first_place splits bound in
    let test : Pair → Bool = λ q. above bound q.0 in
    let part = part_of (after p.seen) (shard x h) in
    let left = union_from (suc j) splits ps in
    let both = find (λ (q : Pair). above bound q.0 && below h q.0) (after p.seen) in
    let below_count : j < length ps = subst (λ (n : ℕ). n < length ps) at l in
    let low_at : x ≡ get_or (least ∷ splits) j x =
    low ∙ ap (λ (n : ℕ). get_or (least ∷ splits) n x) at in
    let here : map_next (map_of (sharding splits ps)) bound ≡ option_or both (slice_get left 0) =
    skip_next splits (maps_of ps) bound rising
    ∙ ap (λ (m : List Pair). find test m)
    (left_at splits ps j x h p count below_count low_at
    (high ∙ ap (slice_get splits) at) (is ∙ ap (λ (n : ℕ). get_or ps n p) at))
    ∙ find-append test part left
    ∙ ap (λ (o : Option Pair). option_or o (find test left))
    (next_part splits bound x h (after p.seen) low_at map)
    ∙ ap (option_or both) (next_left splits (maps_of ps) bound rising) in
    let next : i + 1 ≡ suc j = omega (arith, at) in
    ap (λ (n : ℕ). option_or both (slice_get (union_from n splits ps) 0)) next ∙ sym here

-- the first pair of all from a shard on: that of the shard, otherwise that behind it
pub first_at : (splits : List (List ℕ)) (ps : List Known) (i : ℕ) (x : List ℕ)
    (h : Option (List ℕ)) (p : Known) → length ps ≡ length splits + 1 → i < length ps
    → x ≡ get_or (least ∷ splits) i x → h ≡ slice_get splits i → p ≡ get_or ps i p
    → slice_get (union_from i splits ps) 0
    ≡ option_or (find (λ q. is_in (shard x h) q.0) (after p.seen))
    (slice_get (union_from (i + 1) splits ps) 0)
first_at splits ps i x h p count l low high is =
    let part = part_of (after p.seen) (shard x h) in
    let next : suc i ≡ i + 1 = omega arith in
    ap (λ (m : List Pair). slice_get m 0) (left_at splits ps i x h p count l low high is)
    ∙ first_append part (union_from (suc i) splits ps)
    ∙ ap (λ (o : Option Pair). option_or o (slice_get (union_from (suc i) splits ps) 0))
    (sym (find_first (λ (q : Pair). is_in (shard x h) q.0) (after p.seen)))
    ∙ ap (λ (n : ℕ). option_or (find (λ (q : Pair). is_in (shard x h) q.0) (after p.seen))
    (slice_get (union_from n splits ps) 0)) next
