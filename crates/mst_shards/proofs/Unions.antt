-- The map of all shards: looks into it, and what is left of it from a shard on.
use Rattle.mst_shards.proofs.Names.{◌≡◌, ℕ, zero, suc, ◌+◌, ◌<◌, ◌≤◌, ◌&&◌, Bool, true, false, not, cond, List, [], ◌∷◌, ◌++◌, length, drop, filter, Option, Some, None, get_or, slice_get, refl, sym, ap, ◌∙◌, subst, Less, is_lt, arith, true≢false, AllByRecursion, get_or-map, length-map, filter-append, Pair, key_cmp, from_on, below, map_get, AllAbove, after, alls-append, alls-weaker, alls-passes, filter-nothing, less_chain, less_from_test, map_get-above, Known, Shard, AreSplits, shards_from, is_in, part_of, place, union, maps_of}
use Rattle.std.proofs.Math.Seq.{drop-nil}
use Rattle.mst_key.proofs.MapLaws.{map_get-append_absent, map_get-append_nothing, map_get-filter, map_get-filter_out}
use Rattle.mst_shards.proofs.Places.{less_than, more_than}

abbrev pub shard : List ℕ → Option (List ℕ) → Shard
shard low high = record { low = low; high = high }

-- ---- the bounds of a part

pub and_left : (a b : Bool) → a && b ≡ true → a ≡ true
and_left true b both = refl
and_left false b both = both

pub and_right : (a b : Bool) → a && b ≡ true → b ≡ true
and_right true b both = both
and_right false b both = absurd (true≢false (sym both))

pub not_false : (b : Bool) → not b ≡ true → b ≡ false
not_false true is = absurd (true≢false (sym is))
not_false false is = refl

-- a key in a shard is not below its lower bound
pub inside_from : (s : Shard) (k : List ℕ) → is_in s k ≡ true → is_lt (key_cmp k s.low) ≡ false
inside_from s k inside =
    not_false (is_lt (key_cmp k s.low)) (and_left (from_on (Some s.low) k) (below s.high k) inside)

-- and is below its upper bound
pub inside_to : (low high k : List ℕ) → is_in (shard low (Some high)) k ≡ true
    → is_lt (key_cmp k high) ≡ true
inside_to low high k inside =
    and_right (from_on (Some low) k) (is_lt (key_cmp k high)) inside

-- each pair of a part lies in the shard
pub part_inside : (m : List Pair) (s : Shard) → AllByRecursion (λ p. is_in s p.0 ≡ true)
    (part_of m s)
part_inside m s = alls-passes (λ p. is_in s p.0) m

pub union_nothing : (shards : List Shard) → union shards [] ≡ []
union_nothing [] = refl
union_nothing (s ∷ shards) = refl

-- ---- what is left from a shard on

-- a shard that begins above a key has greater keys alone
part_above : (m : List Pair) (s : Shard) (k : List ℕ) → key_cmp k s.low ≡ Less
    → AllAbove (part_of m s) k
part_above m s k less =
    alls-weaker (λ p. is_in s p.0 ≡ true) (λ p. key_cmp k p.0 ≡ Less)
    (λ p inside. more_than p.0 k s.low (inside_from s p.0 inside) less) (part_of m s)
    (part_inside m s)

pub union_above : (low : List ℕ) (splits : List (List ℕ)) (ms : List (List Pair)) (k : List ℕ)
    → AreSplits low splits → key_cmp k low ≡ Less
    → AllAbove (union (shards_from low splits) ms) k
union_above low [] [] k rising less = tt
union_above low [] (m ∷ ms) k rising less =
    alls-append (λ p. key_cmp k p.0 ≡ Less) (part_of m (shard low None)) []
    (part_above m (shard low None) k less) tt
union_above low (s ∷ splits) [] k rising less = tt
union_above low (s ∷ splits) (m ∷ ms) k rising less =
    alls-append (λ p. key_cmp k p.0 ≡ Less) (part_of m (shard low (Some s)))
    (union (shards_from s splits) ms) (part_above m (shard low (Some s)) k less)
    (union_above s splits ms k rising.2 (less_chain k low s less rising.0))

-- the shards from a place on, where the first of all begins above the key
left_above : (low : List ℕ) (splits : List (List ℕ)) (ms : List (List Pair)) (k : List ℕ)
    (i : ℕ) → AreSplits low splits → key_cmp k low ≡ Less
    → AllAbove (union (drop i (shards_from low splits)) (drop i ms)) k
left_above low splits ms k zero rising less = union_above low splits ms k rising less
left_above low [] ms k (suc i) rising less =
    subst (λ (shards : List Shard). AllAbove (union shards (drop (suc i) ms)) k)
    (sym (drop-nil i)) tt
left_above low (s ∷ splits) [] k (suc i) rising less =
    subst (λ (m : List Pair). AllAbove m k)
    (sym (union_nothing (drop i (shards_from s splits)))) tt
left_above low (s ∷ splits) (m ∷ ms) k (suc i) rising less =
    left_above s splits ms k i rising.2 (less_chain k low s less rising.0)

-- the shards behind that of a key have greater keys alone
pub behind_above : (low : List ℕ) (splits : List (List ℕ)) (ms : List (List Pair)) (k : List ℕ)
    (i : ℕ) → AreSplits low splits → place splits k < i
    → AllAbove (union (drop i (shards_from low splits)) (drop i ms)) k
behind_above low splits ms k zero rising behind = absurd (omega (arith, behind))
behind_above low [] ms k (suc i) rising behind =
    subst (λ (shards : List Shard). AllAbove (union shards (drop (suc i) ms)) k)
    (sym (drop-nil i)) tt
behind_above low (s ∷ splits) [] k (suc i) rising behind =
    subst (λ (m : List Pair). AllAbove m k)
    (sym (union_nothing (drop i (shards_from s splits)))) tt
behind_above low (s ∷ splits) (m ∷ ms) k (suc i) rising behind =
    go (is_lt (key_cmp k s)) refl behind
    (λ later. behind_above s splits ms k i rising.2 later)
  where
    go : (b : Bool) → is_lt (key_cmp k s) ≡ b → cond b 0 (suc (place splits k)) < suc i
        → (place splits k < i → AllAbove (union (drop i (shards_from s splits)) (drop i ms)) k)
        → AllAbove (union (drop i (shards_from s splits)) (drop i ms)) k
    go true less behind more = left_above s splits ms k i rising.2 (less_from_test k s less)
    go false past behind more = more (omega (arith, behind))

same_part : (a b : List Pair) (low x : List ℕ) (high h : Option (List ℕ)) → b ≡ a → x ≡ low
    → h ≡ high → part_of a (shard low high) ≡ part_of b (shard x h)
same_part a b low x high h is from to =
    sym (ap (λ (n : List Pair). part_of n (shard x h)) is
    ∙ ap (λ (y : List ℕ). part_of a (shard y h)) from
    ∙ ap (λ (o : Option (List ℕ)). part_of a (shard low o)) to)

-- the part of the shard at a place, and what is left behind it
pub union_at : (low : List ℕ) (splits : List (List ℕ)) (ms : List (List Pair)) (i : ℕ)
    (x : List ℕ) (h : Option (List ℕ)) (m : List Pair) → length ms ≡ length splits + 1
    → i < length ms → x ≡ get_or (low ∷ splits) i x → h ≡ slice_get splits i
    → m ≡ get_or ms i m → union (drop i (shards_from low splits)) (drop i ms)
    ≡ part_of m (shard x h) ++ union (drop (suc i) (shards_from low splits)) (drop (suc i) ms)
union_at low splits [] i x h m count l from to is = absurd (omega (arith, l))
union_at low [] (n ∷ ms) zero x h m count l from to is =
    ap (λ (part : List Pair). part ++ []) (same_part n m low x None h is from to)
union_at low (s ∷ splits) (n ∷ ms) zero x h m count l from to is =
    ap (λ (part : List Pair). part ++ union (shards_from s splits) ms)
    (same_part n m low x (Some s) h is from to)
union_at low [] (n ∷ ms) (suc i) x h m count l from to is = absurd (omega (arith, count, l))
union_at low (s ∷ splits) (n ∷ ms) (suc i) x h m count l from to is =
    union_at s splits ms i x h m (omega (arith, count)) (omega (arith, l)) from to is

-- the shards before that of a key give nothing to a test that no lesser key passes
pub skip : (test : Pair → Bool) (low : List ℕ) (splits : List (List ℕ)) (ms : List (List Pair))
    (k : List ℕ) (i : ℕ) → AreSplits low splits → i ≤ place splits k
    → ((p : Pair) → key_cmp p.0 k ≡ Less → test p ≡ false)
    → filter test (union (shards_from low splits) ms)
    ≡ filter test (union (drop i (shards_from low splits)) (drop i ms))
skip test low splits ms k zero rising le fails = refl
skip test low [] ms k (suc i) rising le fails = absurd (omega (arith, le))
skip test low (s ∷ splits) [] k (suc i) rising le fails =
    ap (filter test) (sym (union_nothing (drop i (shards_from s splits))))
skip test low (s ∷ splits) (m ∷ ms) k (suc i) rising le fails =
    go (is_lt (key_cmp k s)) refl le
    (λ more. skip test s splits ms k i rising.2 more fails)
  where
    go : (b : Bool) → is_lt (key_cmp k s) ≡ b → suc i ≤ cond b 0 (suc (place splits k))
        → (i ≤ place splits k → filter test (union (shards_from s splits) ms)
        ≡ filter test (union (drop i (shards_from s splits)) (drop i ms)))
        → filter test (part_of m (shard low (Some s)) ++ union (shards_from s splits) ms)
        ≡ filter test (union (drop i (shards_from s splits)) (drop i ms))
    go true less le more = absurd (omega (arith, le))
    go false past le more =
        filter-append test (part_of m (shard low (Some s))) (union (shards_from s splits) ms)
        ∙ ap (λ (part : List Pair). part ++ filter test (union (shards_from s splits) ms))
        (filter-nothing test (part_of m (shard low (Some s)))
        (alls-weaker (λ p. is_in (shard low (Some s)) p.0 ≡ true) (λ p. test p ≡ false)
        (λ p inside. fails p (less_than p.0 k s (inside_to low s p.0 inside) past))
        (part_of m (shard low (Some s))) (part_inside m (shard low (Some s)))))
        ∙ more (omega (arith, le))

-- ---- looks

-- the shard at the key's place decides
pub union_get : (low : List ℕ) (splits : List (List ℕ)) (ps : List Known) (k : List ℕ)
    (p : Known) → AreSplits low splits → length ps ≡ length splits + 1
    → is_lt (key_cmp k low) ≡ false → p ≡ get_or ps (place splits k) p →
    map_get (union (shards_from low splits) (maps_of ps)) k ≡ map_get (after p.seen) k
union_get low splits [] k p rising count from is = absurd (omega (arith, count))
union_get low [] (q ∷ ps) k p rising count from is =
    map_get-append_nothing (part_of (after q.seen) (shard low None)) [] k refl
    ∙ map_get-filter (is_in (shard low None)) (after q.seen) k
    (ap (λ (b : Bool). not b && true) from)
    ∙ ap (λ (x : Known). map_get (after x.seen) k) (sym is)
union_get low (s ∷ splits) (q ∷ ps) k p rising count from is =
    go (is_lt (key_cmp k s)) refl is
    (λ past here. union_get s splits ps k p rising.2 (omega (arith, count)) past here)
  where
    go : (b : Bool) → is_lt (key_cmp k s) ≡ b
        → p ≡ get_or (q ∷ ps) (cond b 0 (suc (place splits k))) p
        → (is_lt (key_cmp k s) ≡ false → p ≡ get_or ps (place splits k) p
        → map_get (union (shards_from s splits) (maps_of ps)) k ≡ map_get (after p.seen) k)
        → map_get (part_of (after q.seen) (shard low (Some s))
        ++ union (shards_from s splits) (maps_of ps)) k ≡ map_get (after p.seen) k
    go true less is later =
        map_get-append_nothing (part_of (after q.seen) (shard low (Some s)))
        (union (shards_from s splits) (maps_of ps)) k
        (map_get-above (union (shards_from s splits) (maps_of ps)) k
        (union_above s splits (maps_of ps) k rising.2 (less_from_test k s less)))
        ∙ map_get-filter (is_in (shard low (Some s))) (after q.seen) k
        (ap (λ (b : Bool). not b && is_lt (key_cmp k s)) from ∙ less)
        ∙ ap (λ (x : Known). map_get (after x.seen) k) (sym is)
    go false past is later =
        map_get-append_absent (part_of (after q.seen) (shard low (Some s)))
        (union (shards_from s splits) (maps_of ps)) k
        (map_get-filter_out (is_in (shard low (Some s))) (after q.seen) k
        (ap (λ (b : Bool). not b && is_lt (key_cmp k s)) from ∙ past))
        ∙ later past is

-- ---- the map of the shard at a place

pub map_at : (ps : List Known) (i : ℕ) (p : Known) → i < length ps → p ≡ get_or ps i p
    → after p.seen ≡ get_or (maps_of ps) i (after p.seen)
map_at ps i p l is =
    ap (λ (q : Known). after q.seen) is
    ∙ sym (get_or-map (λ (q : Known). after q.seen) ps i p (after p.seen) l)

pub maps_count : (ps : List Known) → length (maps_of ps) ≡ length ps
maps_count ps = length-map ps (λ (q : Known). after q.seen)
