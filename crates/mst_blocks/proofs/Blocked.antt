-- A writer's block more, or none.
use Rattle.mst_blocks.proofs.Names.{◌≡◌, ℕ, zero, suc, ◌+◌, ◌≤◌, List, [], ◌∷◌, ◌++◌, length, map, take, Some, None, refl, sym, ap, ◌∙◌, subst, arith, AllByRecursion, length-append, length-map, take_all, take-append-le, Format, Batch, Edit, Event, History, after, batched, format_after, IsSmall, Pair, IsMap, after-push, format_after-push, IsPrefix-length, Known, StoreId, made_by, format_seen, most_rows, least, directory, IsSharded, HasShardedRoot, edits_at, StepsFrom, sharding, AllStep, map_of, parts_from, parts_of, listed_parts, version_made, last_made, AddsBatch, AddsPart, AllAdd, MakesBlock, MakesNothing, LeavesAll, RefusesParts, Blocks, map_made, Records, Whole, whole, IsNumber, IsOneBlock, at_last, last_block, block_map, HasSeenLast, IsWriter, IsLastRoot, AddsBlock, RefusesBlock, HasMade, BlockFault, OnOk, IfOk, IfErr, Result, Ok, Err, all_still, steps_length, length-shards}
use Rattle.std.proofs.Common.{◌-◌}
use Rattle.std.proofs.lemmas.List.{length-take-le}
use Rattle.mst_sharded_proof.specs.Shards.{shards as shards_at}
use Rattle.mst_node.specs.Text.{root as root_of}
use Rattle.mst_shards.specs.Directory.{AllIn, IsClean}
use Rattle.mst_blocks.specs.declared.faults.BlockFault.TheVariants as fault
use Rattle.mst_key.specs.declared.memory.Memory.{Memory as NoMemory}
use Rattle.mst_blocks.proofs.Committing.{same_nothing}
use Rattle.mst_blocks.proofs.Chained.{block_root, made_more, records_more}
use Rattle.mst_blocks.proofs.Growing.{Grows, AllGrow, grown_clean, grown_few, grown_format, grown_map, grown_maps}
use Rattle.mst_blocks.proofs.Relisted.{IsJustMade, MadeOne, AllMade, directory_after}

-- ---- a pass that made a batch

module _ (edits : List Edit) (p q : Known) (a : AddsBatch edits p q) (seen : HasSeenLast p) where
  abbrev event : Event
  event = made_by p (Batch edits)

  log_long : length a.wrote.log ≡ last_made p
  log_long =
      let whole = ap (λ (h : History). length h) a.wrote.seen in
      let more = length-append a.wrote.log (event ∷ []) in
      let next = a.next in
      omega (arith, whole, more, next)

  prefix_long : length p.seen ≤ length a.wrote.log
  prefix_long =
      let whole = ap (λ (h : History). length h) a.wrote.later.1 in
      let more = length-append p.seen a.wrote.later.0 in
      omega (arith, whole, more)

  same_log : a.wrote.log ≡ p.seen
  same_log = IsPrefix-length p.seen a.wrote.log a.wrote.later
      (omega (arith, log_long, prefix_long, seen))

  was_last : (at_last p).seen ≡ p.seen
  was_last = take_all (last_made p) p.seen (omega (arith, log_long, prefix_long))

  made_now : last_made q ≡ length q.seen
  made_now = ap version_made a.wrote.made

  pub just_made : IsJustMade q
  just_made = take_all (last_made q) q.seen (omega (arith, made_now))

  pub made_next : last_made q ≡ last_made p + 1
  made_next = made_now ∙ a.next

  pub seen_now : HasSeenLast q
  seen_now = omega (arith, made_now)

  pub log_more : (at_last q).seen ≡ (at_last p).seen ++ event ∷ []
  log_more = just_made ∙ a.wrote.seen ∙ ap (λ (h : History). h ++ event ∷ [])
      (same_log ∙ sym was_last)

  map_more : after (at_last q).seen ≡ batched (after (at_last p).seen) edits
  map_more = ap after log_more ∙ after-push (at_last p).seen event

  format_more : format_seen (at_last q) ≡ format_seen (at_last p)
  format_more = ap (λ (s : StoreId). format_after s.format (at_last q).seen) a.wrote.same.0
      ∙ ap (λ (h : History). format_after p.store.format h) log_more
      ∙ format_after-push p.store.format (at_last p).seen event

  pub batch_grows : Grows edits (at_last p) (at_last q)
  batch_grows = record {
    map_is = map_more;
    format_is = format_more;
    maps = λ m. subst IsMap (ap after (sym just_made)) a.map;
    few = λ m. subst (λ (h : History). length (after h) ≤ most_rows) (sym just_made) a.few;
  }

-- ---- a pass that made nothing

nothing_log : (p q : Known) → MakesNothing p q → HasSeenLast p → (at_last q).seen ≡ (at_last p).seen
nothing_log p q n seen =
    ap (λ (v : ℕ). take v q.seen) (ap version_made n.made)
    ∙ ap (λ (h : History). take (last_made p) h) n.later.1
    ∙ take-append-le (last_made p) p.seen n.later.0 seen

pub nothing_grows : (p q : Known) → MakesNothing p q → HasSeenLast p
    → Grows [] (at_last p) (at_last q)
nothing_grows p q n seen =
    let log = nothing_log p q n seen in
    record {
      map_is = ap after log;
      format_is = ap (λ (s : StoreId). format_after s.format (at_last q).seen) n.same.0
          ∙ ap (λ (h : History). format_after p.store.format h) log;
      maps = λ m. subst (λ (h : History). IsMap (after h)) (sym log) m;
      few = λ m. subst (λ (h : History). length (after h) ≤ most_rows) (sym log) m;
    }

pub nothing_seen : (p q : Known) → MakesNothing p q → HasSeenLast p → HasSeenLast q
nothing_seen p q n seen =
    let made = ap version_made n.made in
    let whole = ap (λ (h : History). length h) n.later.1 in
    let more = length-append p.seen n.later.0 in
    omega (arith, made, whole, more, seen)

same_grows : (p q : Known) → q ≡ p → Grows [] (at_last p) (at_last q)
same_grows p q is = subst (λ (x : Known). Grows [] (at_last p) (at_last x)) (sym is) record {
  map_is = refl;
  format_is = refl;
  maps = λ m. m;
  few = λ m. m;
}

-- ---- each shard

part_grows : (edits : List Edit) (p q : Known) → AddsPart edits p q → HasSeenLast p
    → Grows edits (at_last p) (at_last q)
part_grows [] p q is seen = same_grows p q is
part_grows (e ∷ edits) p q a seen = batch_grows (e ∷ edits) p q a seen

part_made : (edits : List Edit) (p q : Known) → AddsPart edits p q → HasSeenLast p
    → MadeOne edits q
part_made [] p q is seen = tt
part_made (e ∷ edits) p q a seen = just_made (e ∷ edits) p q a seen

part_seen : (edits : List Edit) (p q : Known) → AddsPart edits p q → HasSeenLast p
    → HasSeenLast q
part_seen [] p q is seen = subst HasSeenLast (sym is) seen
part_seen (e ∷ edits) p q a seen = seen_now (e ∷ edits) p q a seen

parts_grow : (splits : List (List ℕ)) (edits : List Edit) (i n : ℕ) (ps qs : List Known)
    → AllAdd (parts_from splits edits i n) ps qs → AllByRecursion HasSeenLast ps
    → StepsFrom (λ j. Grows (edits_at splits edits j)) i (map at_last ps) (map at_last qs)
parts_grow splits edits i zero [] [] adds seen = tt
parts_grow splits edits i zero [] (q ∷ qs) adds seen = absurd adds
parts_grow splits edits i zero (p ∷ ps) qs adds seen = absurd adds
parts_grow splits edits i (suc n) [] qs adds seen = absurd adds
parts_grow splits edits i (suc n) (p ∷ ps) [] adds seen = absurd adds
parts_grow splits edits i (suc n) (p ∷ ps) (q ∷ qs) adds seen = (
  part_grows (edits_at splits edits i) p q adds.0 seen.0,
  parts_grow splits edits (suc i) n ps qs adds.1 seen.1,
)

parts_made : (parts : List (List Edit)) (ps qs : List Known) → AllAdd parts ps qs
    → AllByRecursion HasSeenLast ps → AllMade parts qs
parts_made [] ps qs adds seen = tt
parts_made (part ∷ parts) [] qs adds seen = absurd adds
parts_made (part ∷ parts) (p ∷ ps) [] adds seen = absurd adds
parts_made (part ∷ parts) (p ∷ ps) (q ∷ qs) adds seen =
    (part_made part p q adds.0 seen.0, parts_made parts ps qs adds.1 seen.1)

parts_seen : (parts : List (List Edit)) (ps qs : List Known) → AllAdd parts ps qs
    → AllByRecursion HasSeenLast ps → AllByRecursion HasSeenLast qs
parts_seen [] [] [] adds seen = tt
parts_seen [] [] (q ∷ qs) adds seen = absurd adds
parts_seen [] (p ∷ ps) qs adds seen = absurd adds
parts_seen (part ∷ parts) [] qs adds seen = absurd adds
parts_seen (part ∷ parts) (p ∷ ps) [] adds seen = absurd adds
parts_seen (part ∷ parts) (p ∷ ps) (q ∷ qs) adds seen =
    (part_seen part p q adds.0 seen.0, parts_seen parts ps qs adds.1 seen.1)

none_grow : (splits : List (List ℕ)) (i : ℕ) (ps qs : List Known) → AllStep MakesNothing ps qs
    → AllByRecursion HasSeenLast ps
    → StepsFrom (λ j. Grows (edits_at splits [] j)) i (map at_last ps) (map at_last qs)
none_grow splits i [] [] steps seen = tt
none_grow splits i [] (q ∷ qs) steps seen = absurd steps
none_grow splits i (p ∷ ps) [] steps seen = absurd steps
none_grow splits i (p ∷ ps) (q ∷ qs) steps seen =
    (nothing_grows p q steps.0 seen.0, none_grow splits (suc i) ps qs steps.1 seen.1)

none_seen : (ps qs : List Known) → AllStep MakesNothing ps qs → AllByRecursion HasSeenLast ps
    → AllByRecursion HasSeenLast qs
none_seen [] [] steps seen = tt
none_seen [] (q ∷ qs) steps seen = absurd steps
none_seen (p ∷ ps) [] steps seen = absurd steps
none_seen (p ∷ ps) (q ∷ qs) steps seen =
    (nothing_seen p q steps.0 seen.0, none_seen ps qs steps.1 seen.1)

-- ---- the whole map

block_again : (splits : List (List ℕ)) (edits : List Edit) (xs ys : List Known) (d e : Known)
    (o : IsOneBlock (whole splits xs d)) → AllByRecursion IsSmall edits
    → AllGrow splits edits xs ys → format_seen e ≡ format_seen d
    → after e.seen ≡ directory o.format (map_of (sharding splits ys)) splits
    → IsOneBlock (whole splits ys e)
block_again splits edits xs ys d e o small steps format listed = record {
  format = o.format;
  sharding_is = record {
    splits_are = o.sharding_is.splits_are;
    count = steps_length (λ j. Grows (edits_at splits edits j)) 0 xs ys steps
        ∙ o.sharding_is.count;
  };
  maps = grown_maps (edits_at splits edits) 0 xs ys steps o.maps;
  few = grown_few (edits_at splits edits) 0 xs ys steps o.few;
  same = grown_format o.format (edits_at splits edits) 0 xs ys steps o.same;
  clean = grown_clean splits edits xs ys o.sharding_is.splits_are small o.clean steps;
  format_is = format ∙ o.format_is;
  listed = listed;
}

-- ---- a block more

module _ (splits : List (List ℕ)) (edits : List Edit) (ps qs : List Known) (d e : Known)
    (w : IsWriter (whole splits ps d)) (small : AllByRecursion IsSmall edits)
    (made : MakesBlock splits (parts_of splits edits) ps qs d e) where
  abbrev xs : List Known
  xs = map at_last ps

  abbrev ys : List Known
  ys = map at_last qs

  abbrev parts : List (List Edit)
  parts = parts_of splits edits

  steps : AllGrow splits edits xs ys
  steps = parts_grow splits edits 0 (suc (length splits)) ps qs made.shards w.seen

  listing_grows : Grows (listed_parts (shards_at splits) parts qs) (at_last d) (at_last e)
  listing_grows = batch_grows (listed_parts (shards_at splits) parts qs) d e made.directory
      w.listing

  clean_now : IsClean (sharding splits ys)
  clean_now = grown_clean splits edits xs ys w.block.sharding_is.splits_are small w.block.clean
      steps

  format_now : AllIn w.block.format (sharding splits ys)
  format_now = grown_format w.block.format (edits_at splits edits) 0 xs ys steps w.block.same

  shards_count : length (shards_at splits) ≡ length ps
  shards_count =
      let shards = length-shards least splits in
      let count = w.block.sharding_is.count in
      let mapped = length-map ps at_last in
      omega (arith, shards, count, mapped)

  listed_now : after (at_last e).seen ≡ directory w.block.format (map_of (sharding splits ys))
      splits
  listed_now = listing_grows.map_is
      ∙ directory_after w.block.format splits parts ps qs (after (at_last d).seen)
      w.block.sharding_is.splits_are shards_count made.shards
      (parts_made parts ps qs made.shards w.seen) clean_now format_now w.block.listed

  pub number_next : last_made e ≡ last_made d + 1
  number_next = made_next (listed_parts (shards_at splits) parts qs) d e made.directory w.listing

  pub writes_again : IsWriter (whole splits qs e)
  writes_again = record {
    seen = parts_seen parts ps qs made.shards w.seen;
    listing = seen_now (listed_parts (shards_at splits) parts qs) d e made.directory w.listing;
    begun = omega (arith, number_next);
    block = block_again splits edits xs ys (at_last d) (at_last e) w.block small steps
        listing_grows.format_is listed_now;
  }

  pub adds_block : AddsBlock edits (whole splits ps d) (whole splits qs e)
  adds_block = record {
    splits = refl;
    made = made;
    map = grown_map splits edits xs ys w.block.sharding_is.splits_are w.block.sharding_is.count
        small w.block.maps steps;
    number = number_next;
  }

-- ---- none

module _ (splits : List (List ℕ)) (ps qs : List Known) (d e : Known)
    (w : IsWriter (whole splits ps d)) (left : LeavesAll ps qs d e) where
  still : AllGrow splits [] (map at_last ps) (map at_last qs)
  still = none_grow splits 0 ps qs left.shards w.seen

  listing_still : Grows [] (at_last d) (at_last e)
  listing_still = nothing_grows d e left.directory w.listing

  pub map_still : map_of (sharding splits (map at_last qs)) ≡ map_of
      (sharding splits (map at_last ps))
  map_still = grown_map splits [] (map at_last ps) (map at_last qs)
      w.block.sharding_is.splits_are w.block.sharding_is.count tt w.block.maps still

  number_still : last_made e ≡ last_made d
  number_still = ap version_made left.directory.made

  pub writes_still : IsWriter (whole splits qs e)
  writes_still = record {
    seen = none_seen ps qs left.shards w.seen;
    listing = nothing_seen d e left.directory w.listing;
    begun = (let before = w.begun in omega (arith, before, number_still));
    block = block_again splits [] (map at_last ps) (map at_last qs) (at_last d) (at_last e) w.block
        tt still listing_still.format_is
        (listing_still.map_is ∙ w.block.listed
        ∙ ap (λ (m : List Pair). directory w.block.format m splits) (sym map_still));
  }

  pub refuses_block : (fault : BlockFault) (edits : List Edit)
      → RefusesParts fault splits (parts_of splits edits) ps qs d e
      → RefusesBlock fault edits (whole splits ps d) (whole splits qs e)
  refuses_block fault edits why = record {
    splits = refl;
    nothing = left;
    why = why;
    map = map_still;
    number = number_still;
  }

-- a writer that was refused memory before it looked at any shard
pub refused_before : (splits : List (List ℕ)) (ps : List Known) (d : Known)
    → IsWriter (whole splits ps d) → (refused : NoMemory) (edits : List Edit)
    → RefusesBlock (fault.Memory refused) edits (whole splits ps d) (whole splits ps d)
refused_before splits ps d w refused edits =
    let left : LeavesAll ps ps d d = record {
      shards = all_still MakesNothing ps (λ p. same_nothing p p refl);
      directory = same_nothing d d refl;
    } in
    refuses_block splits ps ps d d w left (fault.Memory refused) edits tt

pub writer_count : (splits : List (List ℕ)) (ps : List Known) (d : Known)
    → IsWriter (whole splits ps d) → length ps ≡ length splits + 1
writer_count splits ps d w = sym (length-map ps at_last) ∙ w.block.sharding_is.count

-- ---- what is said of a result

pub from_ok : {T P : Type 0} (r : Result T BlockFault) (u : T) → r ≡ Ok u → OnOk r P → P
from_ok {T} {P} r u is p = subst (λ (x : Result T BlockFault). OnOk x P) is p

pub from_ok_of : {T : Type 0} (P : T → Type 0) (r : Result T BlockFault) (u : T) → r ≡ Ok u
    → IfOk r P → P u
from_ok_of {T} P r u is p = subst (λ (x : Result T BlockFault). IfOk x P) is p

pub from_err_of : {T : Type 0} (P : BlockFault → Type 0) (r : Result T BlockFault) (f : BlockFault)
    → r ≡ Err f → IfErr r P → P f
from_err_of {T} P r f is p = subst (λ (x : Result T BlockFault). IfErr x P) is p

-- ---- the number of the last block

pub number_some : (w : Whole) → IsWriter w → (v : ℕ) → w.directory.made ≡ Some v
    → IsNumber (v - 1) (last_block w)
number_some w iw v made =
    let is : last_made w.directory ≡ v = ap version_made made in
    let long = length-take-le (last_made w.directory) w.directory.seen iw.listing in
    let some = iw.begun in
    omega (arith, is, long, some)

pub number_none : (w : Whole) → IsWriter w → w.directory.made ≡ None → IsNumber 0 (last_block w)
number_none w iw made =
    let is : last_made w.directory ≡ 0 = ap version_made made in
    let some = iw.begun in
    absurd (omega (arith, is, some))

-- ---- the blocks so far

pub made_more_blocks : (edits : List Edit) (blocks : Blocks) (w v : Whole) → IsWriter w
    → IsWriter v → AddsBlock edits w v → HasMade blocks w → HasMade (blocks ++ edits ∷ []) v
made_more_blocks edits blocks w v iw iv a h =
    let splits = w.sharding.splits in
    let listings = listed_parts (shards_at splits) (parts_of splits edits) v.sharding.shards in
    let event = made_by w.directory (Batch listings) in
    let log = (at_last w.directory).seen in
    let first = format_seen (at_last w.directory) in
    let more = log_more listings w.directory v.directory a.made.directory iw.listing in
    let grows = batch_grows listings w.directory v.directory a.made.directory iw.listing in
    let map_is : block_map v ≡ batched (map_made blocks) edits =
    a.map ∙ ap (λ (m : List Pair). batched m edits) h.map in
    let sharded : IsSharded (batched (map_made blocks) edits) splits =
    subst (λ (m : List Pair). IsSharded m splits) map_is
    (subst (λ (s : List (List ℕ)). IsSharded (block_map v) s) a.splits
    (block_root (last_block v) iv.block).sharded) in
    let listed : after (log ++ event ∷ []) ≡ directory first (batched (map_made blocks) edits)
    splits =
    ap after (sym more) ∙ iv.block.listed
    ∙ ap (λ (f : Format). directory f (block_map v) v.sharding.splits)
    (sym iv.block.format_is ∙ grows.format_is)
    ∙ ap (λ (m : List Pair). directory first m v.sharding.splits) map_is
    ∙ ap (λ (s : List (List ℕ)). directory first (batched (map_made blocks) edits) s) a.splits in
    record {
      map = map_is ∙ sym (made_more [] blocks edits);
      records = subst (λ (f : Format). Records f v.sharding.splits (at_last v.directory).seen
          (blocks ++ edits ∷ [])) (sym grows.format_is)
          (subst (λ (s : List (List ℕ)). Records first s (at_last v.directory).seen
          (blocks ++ edits ∷ [])) (sym a.splits)
          (subst (λ (l : History). Records first splits l (blocks ++ edits ∷ [])) (sym more)
          (records_more first splits log blocks event edits h.records listed sharded)));
    }

pub made_same_blocks : (fault : BlockFault) (edits : List Edit) (blocks : Blocks) (w v : Whole)
    → IsWriter w → RefusesBlock fault edits w v → HasMade blocks w → HasMade blocks v
made_same_blocks fault edits blocks w v iw r h =
    let splits = w.sharding.splits in
    let first = format_seen (at_last w.directory) in
    let left = r.nothing.directory in
    let log = nothing_log w.directory v.directory left iw.listing in
    let grows = nothing_grows w.directory v.directory left iw.listing in
    record {
      map = r.map ∙ h.map;
      records = subst (λ (f : Format). Records f v.sharding.splits (at_last v.directory).seen
          blocks) (sym grows.format_is)
          (subst (λ (s : List (List ℕ)). Records first s (at_last v.directory).seen blocks)
          (sym r.splits)
          (subst (λ (l : History). Records first splits l blocks) (sym log) h.records));
    }

-- a block that was refused, whatever the fault
pub made_no_block : (blocks : Blocks) (splits : List (List ℕ)) (ps qs : List Known) (d e : Known)
    → IsWriter (whole splits ps d) → LeavesAll ps qs d e → HasMade blocks (whole splits ps d)
    → HasMade blocks (whole splits qs e)
made_no_block blocks splits ps qs d e w left h =
    let first = format_seen (at_last d) in
    let log = nothing_log d e left.directory w.listing in
    let grows = nothing_grows d e left.directory w.listing in
    record {
      map = map_still splits ps qs d e w left ∙ h.map;
      records = subst (λ (f : Format). Records f splits (at_last e).seen blocks)
          (sym grows.format_is)
          (subst (λ (l : History). Records first splits l blocks) (sym log) h.records);
    }

-- ---- the root digest of the last block

pub rooted_now : (edits : List Edit) (w v : Whole) (digest : List ℕ) → IsWriter w
    → AddsBlock edits w v → digest ≡ root_of (format_seen v.directory) (after v.directory.seen)
    → IsLastRoot digest v.directory
rooted_now edits w v digest iw a is =
    let listings = listed_parts (shards_at w.sharding.splits) (parts_of w.sharding.splits edits)
    v.sharding.shards in
    let last : (at_last v.directory).seen ≡ v.directory.seen =
    just_made listings w.directory v.directory a.made.directory iw.listing in
    is ∙ ap (λ (h : History). root_of (format_after v.directory.store.format h) (after h))
    (sym last)

pub rooted_still : (fault : BlockFault) (edits : List Edit) (w v : Whole) (digest : List ℕ)
    → IsWriter w → RefusesBlock fault edits w v → IsLastRoot digest w.directory
    → IsLastRoot digest v.directory
rooted_still fault edits w v digest iw r is =
    let grows = nothing_grows w.directory v.directory r.nothing.directory iw.listing in
    is ∙ ap (λ (f : Format). root_of f (after (at_last w.directory).seen)) (sym grows.format_is)
    ∙ ap (λ (m : List Pair). root_of (format_seen (at_last v.directory)) m) (sym grows.map_is)

pub writer_root : (w : Whole) (digest : List ℕ) → IsWriter w → IsLastRoot digest w.directory
    → HasShardedRoot (format_seen (at_last w.directory)) (block_map w) w.sharding.splits digest
writer_root w digest iw is =
    let m : List Pair = after (at_last w.directory).seen in
    subst (λ (f : Format). HasShardedRoot f (block_map w) w.sharding.splits digest)
    (sym iw.block.format_is)
    (subst (λ (x : List ℕ). HasShardedRoot iw.block.format (block_map w) w.sharding.splits x)
    (sym (is ∙ ap (λ (f : Format). root_of f m) iw.block.format_is))
    (block_root (last_block w) iw.block))
