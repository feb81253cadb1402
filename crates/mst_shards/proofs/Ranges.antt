-- The first pairs between two bounds in the map of all shards.
use Rattle.mst_shards.proofs.Names.{◌≡◌, ℕ, zero, suc, ◌+◌, ◌-◌, ◌<◌, ◌&&◌, Bool, false, not, List, [], ◌∷◌, ◌++◌, length, take, filter, Option, Some, None, get_or, slice_get, refl, sym, ap, ◌∙◌, Ordering, Less, is_lt, arith, filter-append, IsKey, IsValue, Pair, key_cmp, from_on, below, IsMap, after, alls-weaker, filter-nothing, greater_from_less, Known, least, AreSplits, is_in, part_of, place, maps_of, map_of, sharding, greater, lesser, split_before, first_place, last_place, union_from}
use Rattle.std.proofs.Math.Seq.{take-nil}
use Rattle.std.proofs.lemmas.List.{append_assoc, append-nil, length-append}
use Rattle.mst_shards.proofs.Unions.{shard, skip, behind_above}
use Rattle.mst_shards.proofs.Nexts.{left_at, left_nothing}
use Rattle.mst_shards.proofs.Spans.{filter_filter, filter_same, and_false, greater_is, lesser_is, shuffle, from_split}

-- of a read between two bounds
pub range_at : (splits : List (List ℕ)) (ps : List Known) (from to : Option (List ℕ)) (i : ℕ)
    (x : List ℕ) (h : Option (List ℕ)) (p : Known) → length ps ≡ length splits + 1
    → i < length ps → x ≡ get_or (least ∷ splits) i x → h ≡ slice_get splits i
    → p ≡ get_or ps i p → IsMap (after p.seen)
    → filter (λ (q : Pair). from_on from q.0 && below to q.0) (union_from i splits ps)
    ≡ filter (λ (q : Pair). from_on (greater from (split_before splits i)) q.0
    && below (lesser to h) q.0) (after p.seen)
    ++ filter (λ (q : Pair). from_on from q.0 && below to q.0) (union_from (suc i) splits ps)
range_at splits ps from to i x h p count l low high is map =
    let m = after p.seen in
    let test : Pair → Bool = λ q. from_on from q.0 && below to q.0 in
    let bound : Pair → Bool = λ q. from_on (greater from (split_before splits i)) q.0
    && below (lesser to h) q.0 in
    ap (filter test) (left_at splits ps i x h p count l low high is)
    ∙ filter-append test (part_of m (shard x h)) (union_from (suc i) splits ps)
    ∙ ap (λ (part : List Pair). part ++ filter test (union_from (suc i) splits ps))
    (filter_filter test (λ q. is_in (shard x h) q.0) m
    ∙ filter_same (λ q. is_in (shard x h) q.0 && test q) bound m
    (alls-weaker (λ (q : Pair). IsKey q.0 × IsValue q.1)
    (λ (q : Pair). (is_in (shard x h) q.0 && test q) ≡ bound q)
    (λ q fits.
    ap (λ (b : Bool). (b && below h q.0) && (from_on from q.0 && below to q.0))
    (from_split splits i x q.0 fits.0 (omega (arith, count, l)) low)
    ∙ shuffle (from_on (split_before splits i) q.0) (below h q.0) (from_on from q.0) (below to q.0)
    ∙ ap (λ (b : Bool). b && (below to q.0 && below h q.0))
    (sym (greater_is from (split_before splits i) q.0))
    ∙ ap (λ (b : Bool). from_on (greater from (split_before splits i)) q.0 && b)
    (sym (lesser_is to h q.0))) m map.limits))

-- ---- the first pairs between two bounds

pub range_first : (splits : List (List ℕ)) (ps : List Known) (from to : Option (List ℕ))
    → AreSplits least splits
    → filter (λ (q : Pair). from_on from q.0 && below to q.0) (map_of (sharding splits ps))
    ≡ filter (λ (q : Pair). from_on from q.0 && below to q.0)
    (union_from (first_place splits from) splits ps)
range_first splits ps None to rising = refl
range_first splits ps (Some k) to rising =
    skip (λ (q : Pair). from_on (Some k) q.0 && below to q.0) least splits (maps_of ps) k
    (place splits k) rising (omega arith)
    (λ q less. ap (λ (o : Ordering). not (is_lt o) && below to q.0) less)

pub range_end : (splits : List (List ℕ)) (ps : List Known) (from to : Option (List ℕ)) (i : ℕ)
    → AreSplits least splits → length ps ≡ length splits + 1 → last_place splits to < i
    → filter (λ (q : Pair). from_on from q.0 && below to q.0) (union_from i splits ps) ≡ []
range_end splits ps from None i rising count past =
    ap (filter (λ (q : Pair). from_on from q.0 && below None q.0))
    (left_nothing splits ps i (omega (arith, count, past)))
range_end splits ps from (Some k) i rising count past =
    filter-nothing (λ (q : Pair). from_on from q.0 && below (Some k) q.0)
    (union_from i splits ps)
    (alls-weaker (λ (q : Pair). key_cmp k q.0 ≡ Less)
    (λ (q : Pair). from_on from q.0 && below (Some k) q.0 ≡ false)
    (λ q less. ap (λ (o : Ordering). from_on from q.0 && is_lt o)
    (greater_from_less k q.0 less) ∙ and_false (from_on from q.0)) (union_from i splits ps)
    (behind_above least splits (maps_of ps) k i rising past))

take_append : (n : ℕ) (xs ys : List Pair)
    → take n (xs ++ ys) ≡ take n xs ++ take (n - length (take n xs)) ys
take_append zero xs ys = refl
take_append (suc n) [] ys = let e : suc n ≡ suc n - 0 = omega arith in
    ap (λ (j : ℕ). take j ys) e
take_append (suc n) (x ∷ xs) ys =
    let e : n - length (take n xs) ≡ suc n - suc (length (take n xs)) = omega arith in
    ap (λ (l : List Pair). x ∷ l) (take_append n xs ys)
    ∙ ap (λ (j : ℕ). x ∷ (take n xs ++ take j ys)) e

-- the pairs so far, and those that are left to the limit
pub range_more : (limit : ℕ) (all found more part rest left : List Pair)
    → take limit all ≡ found ++ take (limit - length found) rest → rest ≡ part ++ left
    → more ≡ found ++ take (limit - length found) part
    → take limit all ≡ more ++ take (limit - length more) left
range_more limit all found more part rest left so_far is added =
    let n = limit - length found in
    let size = length-append found (take n part) in
    let e : n - length (take n part) ≡ limit - length (found ++ take n part) =
    omega (arith, size) in
    so_far ∙ ap (λ (l : List Pair). found ++ take n l) is
    ∙ ap (λ (l : List Pair). found ++ l) (take_append n part left)
    ∙ sym (append_assoc found (take n part) (take (n - length (take n part)) left))
    ∙ ap (λ (j : ℕ). (found ++ take n part) ++ take j left) e
    ∙ ap (λ (l : List Pair). l ++ take (limit - length l) left) (sym added)

pub range_done : (limit : ℕ) (all found left : List Pair)
    → take limit all ≡ found ++ take (limit - length found) left → left ≡ []
    → found ≡ take limit all
range_done limit all found left so_far is =
    sym (so_far ∙ ap (λ (l : List Pair). found ++ take (limit - length found) l) is
    ∙ ap (λ (l : List Pair). found ++ l) (take-nil (limit - length found))
    ∙ append-nil found)
