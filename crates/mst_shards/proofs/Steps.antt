-- What each step of a read across shards leaves to be read.
use Rattle.mst_shards.proofs.Names.{◌≡◌, ℕ, zero, suc, ◌+◌, ◌-◌, ◌<◌, ◌≤◌, ◌&&◌, List, [], ◌∷◌, ◌++◌, length, take, filter, find, set, Option, Some, None, get_or, slice_get, refl, sym, ap, ◌∙◌, subst, arith, AllByRecursion, option_or, Pair, above, from_on, below, map_next, IsMap, after, Known, least, map_of, sharding, IsSharding, greater, lesser, split_before, first_place, last_place, union_from}
use Rattle.std.proofs.lemmas.List.{length-append, length-take}
use Rattle.mst_key.specs.Map.{map_range}
use Rattle.mst_shards.proofs.Nexts.{map_here, next_at, first_at, left_nothing, low_behind, low_exists}
use Rattle.mst_shards.proofs.Ranges.{range_first, range_at, range_end, range_more, range_done}

-- a read of the pass at a place leaves all passes as they were
pub kept_at : (ps all : List Known) (i : ℕ) (p q : Known) → i < length ps → p ≡ get_or ps i p
    → q ≡ p → ps ≡ all → set ps i q ≡ all
kept_at [] all i p q l is same was = absurd (omega (arith, l))
kept_at (x ∷ ps) all zero p q l is same was = ap (λ (y : Known). y ∷ ps) (same ∙ is) ∙ was
kept_at (x ∷ ps) all (suc i) p q l is same was =
    ap (λ (ys : List Known). x ∷ ys) (kept_at ps ps i p q (omega (arith, l)) is same refl) ∙ was

-- ---- the least key above a bound

next_result : (splits : List (List ℕ)) (ps : List Known) (bound : Option (List ℕ)) (i : ℕ)
    (h : Option (List ℕ)) (p : Known) → IsSharding (sharding splits ps)
    → AllByRecursion (λ (q : Known). IsMap (after q.seen)) ps → i ≡ first_place splits bound
    → i ≤ length splits → h ≡ slice_get splits i → p ≡ get_or ps i p
    → option_or (find (λ (q : Pair). above bound q.0 && below h q.0) (after p.seen))
    (slice_get (union_from (i + 1) splits ps) 0) ≡ map_next (map_of (sharding splits ps)) bound
next_result splits ps bound i h p s maps at l high is =
    let count = s.count in
    let low : i < length ps = omega (arith, count, l) in
    next_at splits ps bound i (get_or (least ∷ splits) i []) h p s.splits_are.rising count at low
    (low_exists (least ∷ splits) i (omega (arith, l))) high is (map_here ps i p low is maps)

-- the shard of the bound has it
pub next_some : (splits : List (List ℕ)) (ps : List Known) (bound : Option (List ℕ)) (i : ℕ)
    (h : Option (List ℕ)) (p : Known) (o : Option Pair) (pair : Pair)
    → IsSharding (sharding splits ps)
    → AllByRecursion (λ (q : Known). IsMap (after q.seen)) ps → i ≡ first_place splits bound
    → i ≤ length splits → h ≡ slice_get splits i → p ≡ get_or ps i p
    → o ≡ find (λ (q : Pair). above bound q.0 && below h q.0) (after p.seen) → o ≡ Some pair
    → Some pair ≡ map_next (map_of (sharding splits ps)) bound
next_some splits ps bound i h p o pair s maps at l high is found some =
    ap (λ (x : Option Pair). option_or x (slice_get (union_from (i + 1) splits ps) 0))
    (sym some ∙ found) ∙ next_result splits ps bound i h p s maps at l high is

-- a shard behind it has it
pub next_none : (splits : List (List ℕ)) (ps : List Known) (bound : Option (List ℕ)) (i : ℕ)
    (h : Option (List ℕ)) (p : Known) (o r : Option Pair) → IsSharding (sharding splits ps)
    → AllByRecursion (λ (q : Known). IsMap (after q.seen)) ps → i ≡ first_place splits bound
    → i ≤ length splits → h ≡ slice_get splits i → p ≡ get_or ps i p
    → o ≡ find (λ (q : Pair). above bound q.0 && below h q.0) (after p.seen) → o ≡ None
    → r ≡ slice_get (union_from (i + 1) splits ps) 0
    → r ≡ map_next (map_of (sharding splits ps)) bound
next_none splits ps bound i h p o r s maps at l high is found none' left =
    left ∙ ap (λ (x : Option Pair). option_or x (slice_get (union_from (i + 1) splits ps) 0))
    (sym none' ∙ found) ∙ next_result splits ps bound i h p s maps at l high is

-- the first pair of the shards from a place on
pub first_step : (splits : List (List ℕ)) (ps : List Known) (i : ℕ) (x : List ℕ)
    (h : Option (List ℕ)) (p : Known) (o : Option Pair) → IsSharding (sharding splits ps) → 0 < i
    → i < length ps → x ≡ get_or splits (i - 1) x → h ≡ slice_get splits i → p ≡ get_or ps i p
    → o ≡ find (λ (q : Pair). from_on (Some x) q.0 && below h q.0) (after p.seen)
    → slice_get (union_from i splits ps) 0
    ≡ option_or o (slice_get (union_from (i + 1) splits ps) 0)
first_step splits ps i x h p o s some l low high is found =
    first_at splits ps i x h p s.count l (low_behind splits i x some low) high is
    ∙ ap (λ (y : Option Pair). option_or y (slice_get (union_from (i + 1) splits ps) 0)) (sym found)

pub first_some : (splits : List (List ℕ)) (ps : List Known) (i : ℕ) (x : List ℕ)
    (h : Option (List ℕ)) (p : Known) (o first : Option Pair) (pair : Pair)
    → IsSharding (sharding splits ps) → 0 < i → i < length ps → x ≡ get_or splits (i - 1) x
    → h ≡ slice_get splits i → p ≡ get_or ps i p
    → o ≡ find (λ (q : Pair). from_on (Some x) q.0 && below h q.0) (after p.seen) → o ≡ Some pair
    → first ≡ slice_get (union_from i splits ps) 0 → Some pair ≡ first
first_some splits ps i x h p o first pair s some l low high is found is_some so_far =
    sym (so_far ∙ first_step splits ps i x h p o s some l low high is found
    ∙ ap (λ (y : Option Pair). option_or y (slice_get (union_from (i + 1) splits ps) 0)) is_some)

pub first_none : (splits : List (List ℕ)) (ps : List Known) (i : ℕ) (x : List ℕ)
    (h : Option (List ℕ)) (p : Known) (o first : Option Pair)
    → IsSharding (sharding splits ps) → 0 < i → i < length ps → x ≡ get_or splits (i - 1) x
    → h ≡ slice_get splits i → p ≡ get_or ps i p
    → o ≡ find (λ (q : Pair). from_on (Some x) q.0 && below h q.0) (after p.seen) → o ≡ None
    → first ≡ slice_get (union_from i splits ps) 0
    → first ≡ slice_get (union_from (i + 1) splits ps) 0
first_none splits ps i x h p o first s some l low high is found none' so_far =
    so_far ∙ first_step splits ps i x h p o s some l low high is found
    ∙ ap (λ (y : Option Pair). option_or y (slice_get (union_from (i + 1) splits ps) 0)) none'

pub first_end : (splits : List (List ℕ)) (ps : List Known) (i : ℕ) (first : Option Pair)
    → length ps ≤ i → first ≡ slice_get (union_from i splits ps) 0 → None ≡ first
first_end splits ps i first l so_far =
    sym (so_far ∙ ap (λ (m : List Pair). slice_get m 0) (left_nothing splits ps i l))

-- ---- the first pairs between two bounds

abbrev pub all_between : List (List ℕ) → List Known → Option (List ℕ) → Option (List ℕ) → ℕ
    → List Pair
all_between splits ps from to i =
    filter (λ (q : Pair). from_on from q.0 && below to q.0) (union_from i splits ps)

-- the pairs so far, and as many of the shards from a place on as are left to the limit
pub record RangedTo (limit : ℕ) (splits : List (List ℕ)) (ps : List Known)
    (from to : Option (List ℕ)) (found : List Pair) (i : ℕ) : Type 0 where
  pub few : length found ≤ limit
  pub so_far : map_range (map_of (sharding splits ps)) from to limit
      ≡ found ++ take (limit - length found) (all_between splits ps from to i)

pub ranged_none : (limit : ℕ) (splits : List (List ℕ)) (ps : List Known)
    (from to : Option (List ℕ)) (found : List Pair) (i : ℕ) → IsSharding (sharding splits ps)
    → i ≡ first_place splits from → found ≡ [] → RangedTo limit splits ps from to found i
ranged_none limit splits ps from to found i s at empty =
    subst (λ (l : List Pair). RangedTo limit splits ps from to l i) (sym empty)
    (subst (λ (n : ℕ). RangedTo limit splits ps from to [] n) (sym at)
    (let e : limit ≡ limit - 0 = omega arith in record {
      few = omega arith;
      so_far = ap (take limit) (range_first splits ps from to s.splits_are.rising)
          ∙ ap (λ (n : ℕ). take n (all_between splits ps from to (first_place splits from))) e;
    }))

pub ranged_more : (limit : ℕ) (splits : List (List ℕ)) (ps : List Known)
    (from to low high h : Option (List ℕ)) (found more : List Pair) (i : ℕ) (p : Known)
    → IsSharding (sharding splits ps)
    → AllByRecursion (λ (q : Known). IsMap (after q.seen)) ps → i ≤ length splits
    → h ≡ slice_get splits i → low ≡ greater from (split_before splits i) → high ≡ lesser to h
    → p ≡ get_or ps i p → RangedTo limit splits ps from to found i
    → more ≡ found ++ map_range (after p.seen) low high (limit - length found)
    → RangedTo limit splits ps from to more (i + 1)
ranged_more limit splits ps from to low high h found more i p s maps l after_it is_low is_high is
    so_far added =
    let count = s.count in
    let here : i < length ps = omega (arith, count, l) in
    let n = limit - length found in
    let part = filter (λ (q : Pair). from_on (greater from (split_before splits i)) q.0
    && below (lesser to h) q.0) (after p.seen) in
    let step = range_at splits ps from to i (get_or (least ∷ splits) i []) h p count here
    (low_exists (least ∷ splits) i (omega (arith, l))) after_it is (map_here ps i p here is maps) in
    let pairs : more ≡ found ++ take n part = added
    ∙ ap (λ (b : Option (List ℕ)). found ++ map_range (after p.seen) b high n) is_low
    ∙ ap (λ (b : Option (List ℕ)). found
    ++ map_range (after p.seen) (greater from (split_before splits i)) b n) is_high in
    let size = length-append found (take n part) in
    let short = length-take n part in
    let long : length more ≡ length (found ++ take n part) = ap length pairs in
    let few = so_far.few in
    let next : suc i ≡ i + 1 = omega arith in
    record {
      few = omega (arith, few, size, short, long);
      so_far = ap (λ (l : List Pair). l) (range_more limit
          (filter (λ (q : Pair). from_on from q.0 && below to q.0) (map_of (sharding splits ps)))
          found more part (all_between splits ps from to i)
          (all_between splits ps from to (suc i)) so_far.so_far step pairs
          ∙ ap (λ (j : ℕ). more ++ take (limit - length more) (all_between splits ps from to j))
          next);
    }

pub ranged_done : (limit : ℕ) (splits : List (List ℕ)) (ps : List Known)
    (from to : Option (List ℕ)) (found : List Pair) (i last : ℕ)
    → IsSharding (sharding splits ps) → last ≡ last_place splits to → last < i
    → RangedTo limit splits ps from to found i
    → found ≡ map_range (map_of (sharding splits ps)) from to limit
ranged_done limit splits ps from to found i last s is past so_far =
    range_done limit
    (filter (λ (q : Pair). from_on from q.0 && below to q.0) (map_of (sharding splits ps))) found
    (all_between splits ps from to i) so_far.so_far
    (range_end splits ps from to i s.splits_are.rising s.count
    (subst (λ (n : ℕ). n < i) is past))
