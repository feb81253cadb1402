-- The edits of a block over the shards are its edits over the whole map.
use Rattle.mst_blocks.proofs.Names.{◌≡◌, inl, inr, ℕ, zero, suc, ◌+◌, ◌<◌, ◌≤◌, List, [], ◌∷◌, length, get_or, Some, None, is_eq, refl, sym, ap, ◌∙◌, subst, arith, ◌==◌, AllByRecursion, Format, Edit, Put, after, batched, key_of, value_after, IsSmall, Pair, key_cmp, map_get, IsMap, IsAscending-batched, map_get-batched, map_determined, Known, format_seen, most_rows, Shard, least, part_of, edits_at, StepsFrom, IsSplits, place, sharding, maps_of, map_of, KeepWithin, shard_at, steps_length}
use Rattle.std.proofs.Common.{Bool, true, false, filter, is_lt, is_gt, true≢false}
use Rattle.std.specs.Prelude.{not}
use Rattle.std.proofs.lemmas.Bool.Decides.{nat_tests}
use Rattle.mst_key.specs.Bytes.{IsKey}
use Rattle.mst_key.specs.declared.format.Format.TheVariants.{One}
use Rattle.mst_key.specs.declared.history.Edit.TheVariants.{Remove}
use Rattle.mst_key.specs.History.{edited, IsEdited}
use Rattle.mst_key.proofs.Alls.{alls-append, alls-both, alls-filter, alls-passes, filter-whole}
use Rattle.mst_key.proofs.BatchOrder.{value_after-unedited}
use Rattle.mst_key.proofs.KeyOrder.{less_from_test}
use Rattle.mst_key.proofs.MapLaws.{map_get-above}
use Rattle.mst_sharded_proof.specs.Shards.{shards_from, shards as shards_at, shard_of, is_in}
use Rattle.mst_sharded_proof.proofs.Complete.{least_first, listed_of}
use Rattle.mst_shards.specs.Sharding.{HaveFewPairs}
use Rattle.mst_shards.specs.Entries.{shard_from_at}
use Rattle.mst_shards.proofs.Intervals.{next_shard}
use Rattle.mst_shards.proofs.Parted.{part_value}
use Rattle.mst_shards.proofs.Places.{place_within}
use Rattle.mst_shards.proofs.Rooted.{key_place}
use Rattle.mst_shards.proofs.ShardParts.{union_map}
use Rattle.mst_shards.proofs.Unions.{union_above, union_get, part_inside}

-- What the version that a pass made last is after edits, if it was the other one before them
pub record Grows (edits : List Edit) (a b : Known) : Type 0 where
  pub map_is : after b.seen ≡ batched (after a.seen) edits
  pub format_is : format_seen b ≡ format_seen a
  pub maps : IsMap (after a.seen) → IsMap (after b.seen)
  pub few : length (after a.seen) ≤ most_rows → length (after b.seen) ≤ most_rows

-- each shard has grown by its edits
abbrev pub AllGrow : List (List ℕ) → List Edit → List Known → List Known → Type 0
AllGrow splits edits xs ys = StepsFrom (λ i. Grows (edits_at splits edits i)) 0 xs ys

-- ---- one of the shards

-- what stands at a place of both lists, with its step
pub record Stepped (S : ℕ → Known → Known → Type 0) (at i : ℕ) (xs ys : List Known) : Type 0
  where
    pub old : Known
    pub new : Known
    pub was : old ≡ get_or xs i old
    pub is : new ≡ get_or ys i new
    pub step : S at old new

stepped : (S : ℕ → Known → Known → Type 0) (from i at : ℕ) (xs ys : List Known) → at ≡ from + i
    → i < length xs → StepsFrom S from xs ys → Stepped S at i xs ys
stepped S from i at [] ys is low steps = absurd (omega (arith, low))
stepped S from i at (a ∷ xs) [] is low steps = absurd steps
stepped S from zero at (a ∷ xs) (b ∷ ys) is low steps =
    let same : from ≡ at = omega (arith, is) in
    record {
      old = a;
      new = b;
      was = refl;
      is = refl;
      step = subst (λ (n : ℕ). S n a b) same steps.0;
    }
stepped S from (suc i) at (a ∷ xs) (b ∷ ys) is low steps =
    let rest = stepped S (suc from) i at xs ys (omega (arith, is)) (omega (arith, low)) steps.1 in
    record { old = rest.old; new = rest.new; was = rest.was; is = rest.is; step = rest.step }

-- ---- no edit is of a key below the least one

small_key : (e : Edit) → IsSmall e → IsKey (key_of e)
small_key (Put k v) small = small.0
small_key (Remove k) small = small

none_below : (k : List ℕ) (edits : List Edit) → is_lt (key_cmp k least) ≡ true
    → AllByRecursion IsSmall edits → IsEdited k edits → ⊥
none_below k [] low small has = has
none_below k (e ∷ edits) low small (inl same) =
    true≢false (sym low ∙ ap (λ (x : List ℕ). is_lt (key_cmp x least)) same
    ∙ least_first (key_of e) (small_key e small.0))
none_below k (e ∷ edits) low small (inr later) = none_below k edits low small.1 later

-- ---- the map

pub all_maps : (ps : List Known) → AllByRecursion (λ (p : Known). IsMap (after p.seen)) ps
    → AllByRecursion IsMap (maps_of ps)
all_maps [] all = tt
all_maps (p ∷ ps) all = (all.0, all_maps ps all.1)

pub grown_maps : (S : ℕ → List Edit) (from : ℕ) (xs ys : List Known)
    → StepsFrom (λ i. Grows (S i)) from xs ys
    → AllByRecursion (λ (p : Known). IsMap (after p.seen)) xs
    → AllByRecursion (λ (p : Known). IsMap (after p.seen)) ys
grown_maps S from [] [] steps all = tt
grown_maps S from [] (b ∷ ys) steps all = absurd steps
grown_maps S from (a ∷ xs) [] steps all = absurd steps
grown_maps S from (a ∷ xs) (b ∷ ys) steps all =
    (steps.0.maps all.0, grown_maps S (suc from) xs ys steps.1 all.1)

pub grown_few : (S : ℕ → List Edit) (from : ℕ) (xs ys : List Known)
    → StepsFrom (λ i. Grows (S i)) from xs ys → HaveFewPairs xs → HaveFewPairs ys
grown_few S from [] [] steps all = tt
grown_few S from [] (b ∷ ys) steps all = absurd steps
grown_few S from (a ∷ xs) [] steps all = absurd steps
grown_few S from (a ∷ xs) (b ∷ ys) steps all =
    (steps.0.few all.0, grown_few S (suc from) xs ys steps.1 all.1)

pub grown_format : (format : Format) (S : ℕ → List Edit) (from : ℕ) (xs ys : List Known)
    → StepsFrom (λ i. Grows (S i)) from xs ys
    → AllByRecursion (λ (p : Known). format_seen p ≡ format) xs
    → AllByRecursion (λ (p : Known). format_seen p ≡ format) ys
grown_format format S from [] [] steps all = tt
grown_format format S from [] (b ∷ ys) steps all = absurd steps
grown_format format S from (a ∷ xs) [] steps all = absurd steps
grown_format format S from (a ∷ xs) (b ∷ ys) steps all =
    (steps.0.format_is ∙ all.0, grown_format format S (suc from) xs ys steps.1 all.1)

-- at a key that is not below the least one its shard decides
grown_get : (splits : List (List ℕ)) (edits : List Edit) (xs ys : List Known) (k : List ℕ)
    → IsSplits splits → length xs ≡ length splits + 1 → AllGrow splits edits xs ys
    → is_lt (key_cmp k least) ≡ false
    → map_get (map_of (sharding splits ys)) k
    ≡ value_after edits k (map_get (map_of (sharding splits xs)) k)
grown_get splits edits xs ys k is count steps from =
    let i = place splits k in
    let within = place_within splits k in
    let many = steps_length (λ j. Grows (edits_at splits edits j)) 0 xs ys steps in
    let here = stepped (λ j. Grows (edits_at splits edits j)) 0 i i xs ys (omega arith)
    (omega (arith, within, count)) steps in
    let part = edits_at splits edits i in
    union_get least splits ys k here.new is.rising (omega (arith, many, count)) from here.is
    ∙ ap (λ (m : List Pair). map_get m k) here.step.map_is
    ∙ map_get-batched (after here.old.seen) part k
    ∙ part_value splits edits k (map_get (after here.old.seen) k)
    ∙ ap (value_after edits k)
    (sym (union_get least splits xs k here.old is.rising count from here.was))

-- and below the least one there is nothing
nothing_low : (splits : List (List ℕ)) (ps : List Known) (k : List ℕ) → IsSplits splits
    → is_lt (key_cmp k least) ≡ true → map_get (map_of (sharding splits ps)) k ≡ None
nothing_low splits ps k is low =
    map_get-above (map_of (sharding splits ps)) k
    (union_above least splits (maps_of ps) k is.rising (less_from_test k least low))

pub grown_map : (splits : List (List ℕ)) (edits : List Edit) (xs ys : List Known)
    → IsSplits splits → length xs ≡ length splits + 1 → AllByRecursion IsSmall edits
    → AllByRecursion (λ (p : Known). IsMap (after p.seen)) xs → AllGrow splits edits xs ys
    → map_of (sharding splits ys) ≡ batched (map_of (sharding splits xs)) edits
grown_map splits edits xs ys is count small maps steps =
    let old = union_map least splits (maps_of xs) is.rising (all_maps xs maps) in
    let new = union_map least splits (maps_of ys) is.rising
    (all_maps ys (grown_maps (edits_at splits edits) 0 xs ys steps maps)) in
    map_determined (map_of (sharding splits ys)) (batched (map_of (sharding splits xs)) edits)
    new.ascending (IsAscending-batched (map_of (sharding splits xs)) edits old.ascending)
    (λ k. go k (is_lt (key_cmp k least)) refl
    ∙ sym (map_get-batched (map_of (sharding splits xs)) edits k))
  where
    go : (k : List ℕ) (b : Bool) → is_lt (key_cmp k least) ≡ b
        → map_get (map_of (sharding splits ys)) k
        ≡ value_after edits k (map_get (map_of (sharding splits xs)) k)
    go k false from = grown_get splits edits xs ys k is count steps from
    go k true low =
        nothing_low splits ys k is low
        ∙ sym (value_after-unedited edits k (map_get (map_of (sharding splits xs)) k)
        (none_below k edits low small) ∙ nothing_low splits xs k is low)

-- ---- each shard keeps to its interval

abbrev InShard : Shard → Pair → Type 0
InShard s p = is_in s p.0 ≡ true

inside_edited : (s : Shard) (m : List Pair) (e : Edit) → AllByRecursion (InShard s) m
    → is_in s (key_of e) ≡ true → AllByRecursion (InShard s) (edited m e)
inside_edited s m (Put k v) all here =
    alls-append (InShard s) (filter (λ (p : Pair). is_lt (key_cmp p.0 k)) m)
    ((k, v) ∷ filter (λ (p : Pair). is_gt (key_cmp p.0 k)) m)
    (alls-filter (InShard s) (λ (p : Pair). is_lt (key_cmp p.0 k)) m all)
    (here, alls-filter (InShard s) (λ (p : Pair). is_gt (key_cmp p.0 k)) m all)
inside_edited s m (Remove k) all here =
    alls-filter (InShard s) (λ (p : Pair). not (is_eq (key_cmp p.0 k))) m all

inside_batched : (s : Shard) (m : List Pair) (es : List Edit) → AllByRecursion (InShard s) m
    → AllByRecursion (λ (e : Edit). is_in s (key_of e) ≡ true) es
    → AllByRecursion (InShard s) (batched m es)
inside_batched s m [] all each = all
inside_batched s m (e ∷ es) all each =
    inside_batched s (edited m e) es (inside_edited s m e all each.0) each.1

keeps_one : (s : Shard) (m : List Pair) (es : List Edit) → part_of m s ≡ m
    → AllByRecursion (λ (e : Edit). is_in s (key_of e) ≡ true) es
    → part_of (batched m es) s ≡ batched m es
keeps_one s m es keeps each =
    filter-whole (λ (p : Pair). is_in s p.0) (batched m es)
    (inside_batched s m es (subst (AllByRecursion (InShard s)) keeps (part_inside m s)) each)

-- the edits of a shard are of keys in it
same_place : (a b : ℕ) → (a == b) ≡ true → a ≡ b
same_place a b is = grind (arith, nat_tests, is)

edits_inside : (splits : List (List ℕ)) (edits : List Edit) (i : ℕ) (s : Shard)
    → ((k : List ℕ) → IsKey k → place splits k ≡ i → is_in s k ≡ true)
    → AllByRecursion IsSmall edits
    → AllByRecursion (λ (e : Edit). is_in s (key_of e) ≡ true) (edits_at splits edits i)
edits_inside splits edits i s inside small =
    alls-both (λ (e : Edit). (place splits (key_of e) == i) ≡ true) IsSmall
    (λ (e : Edit). is_in s (key_of e) ≡ true)
    (λ e test fits. inside (key_of e) (small_key e fits)
    (same_place (place splits (key_of e)) i test)) (edits_at splits edits i)
    (alls-passes (λ (e : Edit). place splits (key_of e) == i) edits)
    (alls-filter IsSmall (λ (e : Edit). place splits (key_of e) == i) edits small)

-- a key lies in the shard at its place
pub key_inside : (splits : List (List ℕ)) (k : List ℕ) (i : ℕ) → IsSplits splits → IsKey k
    → place splits k ≡ i → is_in (shard_at splits i) k ≡ true
key_inside splits k i is key at =
    let inside : is_in (shard_of splits k) k ≡ true =
    (listed_of One [] least splits k (omega arith, omega arith) is.rising
    (least_first k key)).inside in
    subst (λ (n : ℕ). is_in (shard_at splits n) k ≡ true) at
    (subst (λ (s : Shard). is_in s k ≡ true) (key_place splits k) inside)

keep_from : (whole : List (List ℕ)) (edits : List Edit) (low : List ℕ) (splits : List (List ℕ))
    (from : ℕ) (xs ys : List Known)
    → ((j : ℕ) (k : List ℕ) → IsKey k → place whole k ≡ from + j
    → is_in (shard_from_at low splits j) k ≡ true)
    → AllByRecursion IsSmall edits → KeepWithin (shards_from low splits) (maps_of xs)
    → StepsFrom (λ i. Grows (edits_at whole edits i)) from xs ys
    → KeepWithin (shards_from low splits) (maps_of ys)
keep_from whole edits low [] from [] [] inside small keep steps = tt
keep_from whole edits low (t ∷ splits) from [] [] inside small keep steps = tt
keep_from whole edits low splits from [] (b ∷ ys) inside small keep steps = absurd steps
keep_from whole edits low splits from (a ∷ xs) [] inside small keep steps = absurd steps
keep_from whole edits low [] from (a ∷ xs) (b ∷ ys) inside small keep steps =
    let s : Shard = record { low = low; high = None } in (
      subst (λ (m : List Pair). part_of m s ≡ m) (sym steps.0.map_is)
          (keeps_one s (after a.seen) (edits_at whole edits from) keep.0
          (edits_inside whole edits from s (λ k key at. inside 0 k key (omega (arith, at))) small)),
      tt,
    )
keep_from whole edits low (t ∷ splits) from (a ∷ xs) (b ∷ ys) inside small keep steps =
    let s : Shard = record { low = low; high = Some t } in (
      subst (λ (m : List Pair). part_of m s ≡ m) (sym steps.0.map_is)
          (keeps_one s (after a.seen) (edits_at whole edits from) keep.0
          (edits_inside whole edits from s (λ k key at. inside 0 k key (omega (arith, at))) small)),
      keep_from whole edits t splits (suc from) xs ys
          (λ j k key at. subst (λ (x : Shard). is_in x k ≡ true)
          (sym (next_shard low t splits j)) (inside (suc j) k key (omega (arith, at)))) small
          keep.1 steps.1,
    )

pub grown_clean : (splits : List (List ℕ)) (edits : List Edit) (xs ys : List Known)
    → IsSplits splits → AllByRecursion IsSmall edits
    → KeepWithin (shards_at splits) (maps_of xs) → AllGrow splits edits xs ys
    → KeepWithin (shards_at splits) (maps_of ys)
grown_clean splits edits xs ys is small keep steps =
    keep_from splits edits least splits 0 xs ys
    (λ j k key at. key_inside splits k j is key (omega (arith, at))) small keep steps
