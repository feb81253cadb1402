-- The first block: the directory lists the empty map.
use Rattle.mst_blocks.proofs.Names.{◌≡◌, ◌≢◌, ℕ, zero, suc, ◌+◌, ◌≤◌, List, [], ◌∷◌, ◌++◌, length, map, drop, take, Option, Some, None, Less, is_eq, refl, sym, ap, ◌∙◌, subst, arith, append_assoc, append-nil, AllByRecursion, cond-true, cond-false, length-append, length-map, take_all, Format, Batch, Edit, Put, History, after, batched, format_after, value_of, value_after, Pair, IsMap, key_cmp, map_get, IsAscending-batched, map_get-batched, by_same, less_chain, other_from_less, test_of_same, test_of_other, map_determined, map_get-here, map_get-past, Known, StoreId, made_by, format_seen, most_rows, Shard, least, part_of, listing, directory, bound_text, IsSharded, directory_map, last_made, version_made, AddsBatch, Blocks, map_made, Whole, IsNumber, IsOneBlock, KeepWithin, shard_at, drop_shards, length-shards, IsSplits, sharding, maps_of, map_of, IsNew, empty_listings, at_last, last_block, HasSeenLast, IsWriter, HasMade, RiseFrom, all_rise}
use Rattle.std.proofs.Common.{slice_get, drop_of_length-le}
use Rattle.mst_node.specs.Text.{root as root_of}
use Rattle.mst_key.proofs.MapLaws.{IsMap-nil}
use Rattle.mst_sharded_proof.specs.Shards.{shards as shards_at}
use Rattle.mst_shards.specs.Entries.{low_at}
use Rattle.mst_shards.specs.Sharding.{union}
use Rattle.mst_blocks.specs.Writing.{empty_listing}
use Rattle.mst_blocks.proofs.Chained.{block_root}

-- ---- what is listed first

abbrev held : Format → List Shard → List Pair
held format shards = map (λ (s : Shard). (s.low, listing format [] s)) shards

rise_lower : (a b : List ℕ) (shards : List Shard) → key_cmp a b ≡ Less → RiseFrom b shards
    → RiseFrom a shards
rise_lower a b [] less rise = tt
rise_lower a b (s ∷ shards) less rise = (less_chain a b s.low less rise.0, rise.1)

past_one : (format : Format) (s : Shard) (rest : List Edit) (k : List ℕ) (old : Option (List ℕ))
    → s.low ≢ k → value_after (empty_listing format s ∷ rest) k old ≡ value_after rest k old
past_one format s rest k old other =
    ap (λ (o : Option (List ℕ)). value_after rest k o)
    (cond-false (is_eq (key_cmp s.low k)) (value_of (empty_listing format s)) old
    (test_of_other s.low k other))

untouched : (format : Format) (b : List ℕ) (shards : List Shard) (old : Option (List ℕ))
    → RiseFrom b shards → value_after (empty_listings format shards) b old ≡ old
untouched format b [] old rise = refl
untouched format b (s ∷ shards) old rise =
    past_one format s (empty_listings format shards) b old
    (λ same. other_from_less b s.low rise.0 (sym same))
    ∙ untouched format b shards old (rise_lower b s.low shards rise.0 rise.1)

first_get : (format : Format) (b : List ℕ) (shards : List Shard) (k : List ℕ) → RiseFrom b shards
    → value_after (empty_listings format shards) k None ≡ map_get (held format shards) k
first_get format b [] k rise = refl
first_get format b (s ∷ shards) k rise =
    let rest = empty_listings format shards in
    let v : List ℕ = listing format [] s in
    by_same {G = value_after (empty_listing format s ∷ rest) k None
    ≡ map_get ((s.low, v) ∷ held format shards) k} s.low k
    (λ same. subst (λ (x : List ℕ). value_after (empty_listing format s ∷ rest) x None ≡ Some v)
    same
    (ap (λ (o : Option (List ℕ)). value_after rest s.low o)
    (cond-true (is_eq (key_cmp s.low s.low)) (value_of (empty_listing format s)) None
    (test_of_same s.low s.low refl)) ∙ untouched format s.low shards (Some v) rise.1)
    ∙ sym (map_get-here (s.low, v) (held format shards) k same))
    (λ other. past_one format s rest k None other
    ∙ first_get format s.low shards k rise.1
    ∙ sym (map_get-past (s.low, v) (held format shards) k other))

first_directory : (format : Format) (splits : List (List ℕ)) → IsSplits splits
    → batched [] (empty_listings format (shards_at splits)) ≡ directory format [] splits
first_directory format splits is =
    let edits = empty_listings format (shards_at splits) in
    map_determined (batched [] edits) (directory format [] splits)
    (IsAscending-batched [] edits tt) (directory_map format [] splits is.rising).ascending
    (λ k. map_get-batched [] edits k
    ∙ first_get format [] (shards_at splits) k (all_rise splits is))

-- one shard after the other
pub empty_step : (format : Format) (splits : List (List ℕ)) (es fs : List Edit)
    (digest : List ℕ) (i : ℕ) → i ≤ length splits
    → es ++ empty_listings format (drop i (shards_at splits))
    ≡ empty_listings format (shards_at splits) → digest ≡ root_of format []
    → fs ≡ es ++ Put (low_at splits i) (digest ++ bound_text (slice_get splits i)) ∷ []
    → fs ++ empty_listings format (drop (i + 1) (shards_at splits))
    ≡ empty_listings format (shards_at splits)
empty_step format splits es fs digest i low was is pushed =
    let s : Shard = shard_at splits i in
    let rest : List Edit = empty_listings format (drop (i + 1) (shards_at splits)) in
    ap (λ (l : List Edit). l ++ rest)
    (pushed ∙ ap (λ (r : List ℕ). es ++ Put (low_at splits i)
    (r ++ bound_text (slice_get splits i)) ∷ []) is)
    ∙ append_assoc es (empty_listing format s ∷ []) rest
    ∙ ap (λ (l : List Shard). es ++ empty_listings format l) (sym (drop_shards splits i low))
    ∙ was

pub empty_end : (format : Format) (splits : List (List ℕ)) (es : List Edit) (i : ℕ)
    → length splits + 1 ≤ i
    → es ++ empty_listings format (drop i (shards_at splits))
    ≡ empty_listings format (shards_at splits) → es ≡ empty_listings format (shards_at splits)
empty_end format splits es i end was =
    let count = length-shards least splits in
    sym (append-nil es)
    ∙ ap (λ (l : List Shard). es ++ empty_listings format l)
    (sym (drop_of_length-le (shards_at splits) (omega (arith, count, end)))) ∙ was

-- ---- shards of which nothing was seen

new_last : (format : Format) (p : Known) → IsNew format p → (at_last p).seen ≡ []
new_last format p new =
    ap (λ (h : History). take (last_made p) h) new.0 ∙ take_all (last_made p) [] (omega arith)

new_map : (format : Format) (p : Known) → IsNew format p → after (at_last p).seen ≡ []
new_map format p new = ap after (new_last format p new)

new_union : (format : Format) (shards : List Shard) (ps : List Known)
    → AllByRecursion (IsNew format) ps → union shards (maps_of (map at_last ps)) ≡ []
new_union format [] ps all = refl
new_union format (s ∷ shards) [] all = refl
new_union format (s ∷ shards) (p ∷ ps) all =
    ap (λ (m : List Pair). part_of m s ++ union shards (maps_of (map at_last ps)))
    (new_map format p all.0) ∙ new_union format shards ps all.1

new_clean : (format : Format) (shards : List Shard) (ps : List Known)
    → AllByRecursion (IsNew format) ps → KeepWithin shards (maps_of (map at_last ps))
new_clean format [] ps all = tt
new_clean format (s ∷ shards) [] all = tt
new_clean format (s ∷ shards) (p ∷ ps) all = (
  subst (λ (m : List Pair). part_of m s ≡ m) (sym (new_map format p all.0)) refl,
  new_clean format shards ps all.1,
)

new_each : (format : Format) (P : Known → Type 0) (ps : List Known)
    → ((p : Known) → IsNew format p → P (at_last p)) → AllByRecursion (IsNew format) ps
    → AllByRecursion P (map at_last ps)
new_each format P [] f all = tt
new_each format P (p ∷ ps) f all = (f p all.0, new_each format P ps f all.1)

new_seen : (format : Format) (ps : List Known) → AllByRecursion (IsNew format) ps
    → AllByRecursion HasSeenLast ps
new_seen format [] all = tt
new_seen format (p ∷ ps) all = (
  subst (λ (n : ℕ). n ≤ length p.seen) (sym (ap version_made all.0.1)) (omega arith),
  new_seen format ps all.1,
)

new_format : (format : Format) (p : Known) → IsNew format p → format_seen (at_last p) ≡ format
new_format format p new =
    ap (λ (h : History). format_after p.store.format h) (new_last format p new) ∙ new.2

-- ---- the writer

module _ (format : Format) (splits : List (List ℕ)) (ps : List Known) (d e : Known)
    (is : IsSplits splits) (count : length ps ≡ length splits + 1)
    (new : AllByRecursion (IsNew format) ps) (fresh : IsNew format d)
    (a : AddsBatch (empty_listings format (shards_at splits)) d e) where
  abbrev edits : List Edit
  edits = empty_listings format (shards_at splits)

  abbrev begun_whole : Whole
  begun_whole = record { sharding = sharding splits ps; directory = e }

  made_one : last_made e ≡ 1
  made_one =
      let next = a.next in
      let none : last_made d ≡ 0 = ap version_made fresh.1 in
      let made : last_made e ≡ length e.seen = ap version_made a.wrote.made in
      omega (arith, next, none, made)

  long : length e.seen ≡ 1
  long =
      let next = a.next in
      let none : last_made d ≡ 0 = ap version_made fresh.1 in
      omega (arith, next, none)

  log_none : a.wrote.log ≡ []
  log_none =
      let whole = ap (λ (h : History). length h) a.wrote.seen in
      let more = length-append a.wrote.log (made_by d (Batch edits) ∷ []) in
      empty a.wrote.log (omega (arith, whole, more, long))
    where
      empty : (h : History) → length h ≡ 0 → h ≡ []
      empty [] is_none = refl
      empty (x ∷ h) is_none = absurd (omega (arith, is_none))

  log_is : (at_last e).seen ≡ made_by d (Batch edits) ∷ []
  log_is = take_all (last_made e) e.seen (omega (arith, made_one, long)) ∙ a.wrote.seen
      ∙ ap (λ (h : History). h ++ made_by d (Batch edits) ∷ []) log_none

  map_none : map_of (sharding splits (map at_last ps)) ≡ []
  map_none = new_union format (shards_at splits) ps new

  listed_first : after (at_last e).seen ≡ directory format [] splits
  listed_first = ap after log_is ∙ first_directory format splits is

  format_first : format_seen (at_last e) ≡ format
  format_first = ap (λ (h : History). format_after e.store.format h) log_is
      ∙ ap (λ (s : StoreId). s.format) a.wrote.same.0 ∙ fresh.2

  pub begun_block : IsOneBlock (last_block begun_whole)
  begun_block = record {
    format = format;
    sharding_is = record {
      splits_are = is;
      count = length-map ps at_last ∙ count;
    };
    maps = new_each format (λ (p : Known). IsMap (after p.seen)) ps
        (λ p n. subst IsMap (sym (new_map format p n)) IsMap-nil) new;
    few = new_each format (λ (p : Known). length (after p.seen) ≤ most_rows) ps
        (λ p n. subst (λ (m : List Pair). length m ≤ most_rows) (sym (new_map format p n))
        (omega arith)) new;
    same = new_each format (λ (p : Known). format_seen p ≡ format) ps
        (λ p n. new_format format p n) new;
    clean = new_clean format (shards_at splits) ps new;
    format_is = format_first;
    listed = listed_first
        ∙ ap (λ (m : List Pair). directory format m splits) (sym map_none);
  }

  pub begun_writer : IsWriter begun_whole
  begun_writer = record {
    seen = new_seen format ps new;
    listing = omega (arith, made_one, long);
    begun = omega (arith, made_one);
    block = begun_block;
  }

  pub begun_number : IsNumber 0 (last_block begun_whole)
  begun_number = ap (λ (h : History). length h) log_is

  begun_sharded : IsSharded [] splits
  begun_sharded = subst (λ (m : List Pair). IsSharded m splits) map_none
      (block_root (last_block begun_whole) begun_block).sharded

  first_listed : (n : ℕ) → n ≤ 0 → after (take (n + 1) (at_last e).seen)
      ≡ directory (format_seen (at_last e)) (map_made (take n (let bs : Blocks = [] in bs))) splits
  first_listed zero le =
      ap after (take_all 1 (at_last e).seen (omega (arith, begun_number))) ∙ listed_first
      ∙ ap (λ (f : Format). directory f [] splits) (sym format_first)
  first_listed (suc n) le = absurd (omega (arith, le))

  first_sharded : (n : ℕ) → n ≤ 0
      → IsSharded (map_made (take n (let bs : Blocks = [] in bs))) splits
  first_sharded zero le = begun_sharded
  first_sharded (suc n) le = absurd (omega (arith, le))

  pub begun_none : HasMade [] begun_whole
  begun_none = record {
    map = map_none;
    records = record {
      count = begun_number;
      lists = first_listed;
      sharded = first_sharded;
    };
  }
