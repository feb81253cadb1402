-- What a reader keeps of its last snapshot: versions that are known to be of one block.
use Rattle.mst_snapshots.proofs.Names.{◌≡◌, ℕ, zero, suc, ◌+◌, ◌-◌, ◌<◌, ◌≤◌, List, [], ◌∷◌, length, slice_get, Option, Some, refl, sym, ap, ◌∙◌, subst, arith, AllByRecursion, option_map, same_Some, none-some, slice_get-map, slice_get-get_or, History, after, format_after, Pair, IsMap, IsPrefix-length, StoreId, Known, format_seen, most_rows, least, part_of, directory, length-directory, Whole, IsOneBlock, IsNumber, KeepWithin, shard_at, KeepsTo, Shards, AllStep, IsSplits, maps_of, map_of, union, all_step_length, AreClean, pass_at, IsLater, SeesOn, versions_of, IsReader, IsSnapshot}
use Rattle.mst_sharded_proof.specs.Shards.{shards as shards_at}
use Rattle.mst_snapshots.specs.Reading.{HasVersions}
use Rattle.mst_snapshots.proofs.Later.{SeesOn-itself}
use Rattle.mst_snapshots.proofs.Matching.{own_keeps}
use Rattle.mst_snapshots.proofs.Staying.{read_at}

-- ---- the same versions

-- a pass of the same store has seen the same
abbrev IsSame : Known → Known → Type 0
IsSame p q = (q.store ≡ p.store) × (q.seen ≡ p.seen)

-- so it is of a pass that has seen more, if the version has the same number
same_version : (p q : Known) → IsLater p q → length q.seen ≡ length p.seen → IsSame p q
same_version p q more count = (more.0, IsPrefix-length p.seen q.seen more.1 count)

abbrev rest_of : List ℕ → List ℕ
rest_of [] = []
rest_of (n ∷ ns) = ns

abbrev first_of : List ℕ → ℕ
first_of [] = 0
first_of (n ∷ ns) = n

same_versions : (ps qs : List Known) → AllStep IsLater ps qs → versions_of qs ≡ versions_of ps
    → AllStep IsSame ps qs
same_versions [] [] steps same = tt
same_versions [] (q ∷ qs) steps same = absurd steps
same_versions (p ∷ ps) [] steps same = absurd steps
same_versions (p ∷ ps) (q ∷ qs) steps same = (
  same_version p q steps.0 (ap first_of same),
  same_versions ps qs steps.1 (ap rest_of same),
)

maps_same : (ps qs : List Known) → AllStep IsSame ps qs → maps_of qs ≡ maps_of ps
maps_same [] [] steps = refl
maps_same [] (q ∷ qs) steps = absurd steps
maps_same (p ∷ ps) [] steps = absurd steps
maps_same (p ∷ ps) (q ∷ qs) steps =
    ap (λ (h : History). after h ∷ maps_of qs) steps.0.1
    ∙ ap (λ (ms : List (List Pair)). after p.seen ∷ ms) (maps_same ps qs steps.1)

all_same : (P : Known → Type 0) (ps qs : List Known) → ((p q : Known) → IsSame p q → P p → P q)
    → AllStep IsSame ps qs → AllByRecursion P ps → AllByRecursion P qs
all_same P [] [] goes steps all = tt
all_same P [] (q ∷ qs) goes steps all = absurd steps
all_same P (p ∷ ps) [] goes steps all = absurd steps
all_same P (p ∷ ps) (q ∷ qs) goes steps all =
    (goes p q steps.0 all.0, all_same P ps qs goes steps.1 all.1)

format_same : (p q : Known) → IsSame p q → format_seen q ≡ format_seen p
format_same p q same =
    ap (λ (s : StoreId). format_after s.format q.seen) same.0
    ∙ ap (λ (h : History). format_after p.store.format h) same.1

-- what has the versions of a block is of one block
same_block : (b w : Whole) → IsOneBlock b → w.sharding.splits ≡ b.sharding.splits
    → AllStep IsSame b.sharding.shards w.sharding.shards → IsSame b.directory w.directory
    → IsOneBlock w
same_block b w one splits shards listing =
    let bs = b.sharding.shards in
    let ps = w.sharding.shards in
    let maps = maps_same bs ps shards in
    record {
      format = one.format;
      sharding_is = record {
        splits_are = subst IsSplits (sym splits) one.sharding_is.splits_are;
        count = all_step_length IsSame bs ps shards ∙ one.sharding_is.count
            ∙ ap (λ (l : List (List ℕ)). length l + 1) (sym splits);
      };
      maps = all_same (λ (p : Known). IsMap (after p.seen)) bs ps
          (λ p q same is. subst (λ (h : History). IsMap (after h)) (sym same.1) is) shards one.maps;
      few = all_same (λ (p : Known). length (after p.seen) ≤ most_rows) bs ps
          (λ p q same is. subst (λ (h : History). length (after h) ≤ most_rows) (sym same.1) is)
          shards one.few;
      same = all_same (λ (p : Known). format_seen p ≡ one.format) bs ps
          (λ p q same is. format_same p q same ∙ is) shards one.same;
      clean = subst (λ (l : List (List ℕ)). KeepWithin (shards_at l) (maps_of ps)) (sym splits)
          (subst (λ (ms : List (List Pair)). KeepWithin (shards_at b.sharding.splits) ms) (sym maps)
          one.clean);
      format_is = format_same b.directory w.directory listing ∙ one.format_is;
      listed = ap (λ (h : History). after h) listing.1 ∙ one.listed
          ∙ ap (λ (ms : List (List Pair)). directory one.format
          (union (shards_at b.sharding.splits) ms) b.sharding.splits) (sym maps)
          ∙ ap (λ (l : List (List ℕ)). directory one.format
          (union (shards_at l) (maps_of ps)) l) (sym splits);
    }

-- ---- the versions of the last snapshot again

none_kept : (splits : List (List ℕ)) (ps : List Known) (found : List ℕ)
    → length ps ≡ length splits + 1 → found ≡ versions_of ps → found ≡ [] → ⊥
none_kept splits [] found count are none = omega (arith, count)
none_kept splits (p ∷ ps) found count are none =
    let f : length p.seen ∷ versions_of ps ≡ [] = sym are ∙ none in cc

pub seen_again : (s : Shards) (versions found : List ℕ) (number n : ℕ) (w : Whole)
    → IsReader s versions number w → HasVersions found n w → n ≡ number → found ≡ versions
    → IsOneBlock w
seen_again s versions found zero n w was has same are =
    absurd (none_kept w.sharding.splits w.sharding.shards found was.sharding_is.count has.shards
    (are ∙ was.begins refl))
seen_again s versions found (suc number) n w was has same are =
    let last = was.last (omega arith) in
    same_block last.block w last.one last.seen.splits
    (same_versions last.block.sharding.shards w.sharding.shards last.seen.shards
    (sym has.shards ∙ are ∙ last.versions_are.shards))
    (same_version last.block.directory w.directory last.seen.directory
    (sym has.directory ∙ same ∙ last.versions_are.directory))

-- ---- versions that are known to be clean

step_at : (Steps : Known → Known → Type 0) (ps qs : List Known) (k : ℕ) → AllStep Steps ps qs
    → k < length qs → Steps (pass_at ps k) (pass_at qs k)
step_at Steps [] [] k steps low = absurd (omega (arith, low))
step_at Steps [] (q ∷ qs) k steps low = absurd steps
step_at Steps (p ∷ ps) [] k steps low = absurd steps
step_at Steps (p ∷ ps) (q ∷ qs) zero steps low = steps.0
step_at Steps (p ∷ ps) (q ∷ qs) (suc k) steps low =
    step_at Steps ps qs k steps.1 (omega (arith, low))

version_at : (ps : List Known) (k : ℕ) → k < length ps
    → slice_get (versions_of ps) k ≡ Some (length (pass_at ps k).seen)
version_at ps k low =
    slice_get-map (λ (p : Known). length p.seen) ps k
    ∙ ap (λ (o : Option Known). option_map (λ (p : Known). length p.seen) o)
    (slice_get-get_or ps k (pass_at ps k) low
    ∙ ap (λ (p : Known). Some p) (sym (read_at ps k low)))

block_clean : (b w : Whole) (versions : List ℕ) → IsOneBlock b → SeesOn b w
    → versions ≡ versions_of b.sharding.shards
    → AreClean w.sharding.splits versions w.sharding.shards
block_clean b w versions one seen are k low is =
    let bs = b.sharding.shards in
    let ps = w.sharding.shards in
    let count = all_step_length IsLater bs ps seen.shards in
    let there : k < length bs = omega (arith, low, count) in
    let step = step_at IsLater bs ps k seen.shards low in
    let numbers : length (pass_at ps k).seen ≡ length (pass_at bs k).seen =
    same_Some (length (pass_at ps k).seen) (length (pass_at bs k).seen)
    (sym is ∙ ap (λ (l : List ℕ). slice_get l k) are ∙ version_at bs k there) in
    let same = same_version (pass_at bs k) (pass_at ps k) step numbers in
    let keeps = own_keeps b.sharding.splits bs b.directory k (pass_at bs k) one there
    (read_at bs k there) in
    subst (λ (l : List (List ℕ)). KeepsTo (shard_at l k) (pass_at ps k)) (sym seen.splits)
    (subst (λ (h : History). part_of (after h) (shard_at b.sharding.splits k) ≡ after h)
    (sym same.1) keeps)

pub reader_clean : (s : Shards) (versions : List ℕ) (number : ℕ) (w : Whole)
    → IsReader s versions number w → AreClean w.sharding.splits versions w.sharding.shards
reader_clean s versions zero w was k low is =
    absurd (none-some (length (pass_at w.sharding.shards k).seen)
    (ap (λ (l : List ℕ). slice_get l k) (sym (was.begins refl)) ∙ is))
reader_clean s versions (suc number) w was k low is =
    let last = was.last (omega arith) in
    block_clean last.block w versions last.one last.seen last.versions_are.shards k low is

-- ---- a snapshot

nothing_listed : (h : History) (m : List Pair) (n : ℕ) → after h ≡ m → length m ≡ suc n
    → 0 < length h
nothing_listed [] m n is count =
    let empty : 0 ≡ length m = ap (λ (l : List Pair). length l) is in
    absurd (omega (arith, empty, count))
nothing_listed (e ∷ h) m n is count = omega arith

-- a directory of a block has seen something, since it has entries
pub some_seen : (w : Whole) → IsOneBlock w → 0 < length w.directory.seen
some_seen w one =
    nothing_listed w.directory.seen
    (directory one.format (map_of w.sharding) w.sharding.splits) (length w.sharding.splits)
    one.listed (length-directory one.format (map_of w.sharding) least w.sharding.splits)

pub number_is : (s : Shards) (versions : List ℕ) (number : ℕ) (w : Whole)
    → IsSnapshot s versions number w → IsNumber (number - 1) w
number_is s versions number w is =
    let some = some_seen w is.one in
    let same = is.versions_are.directory in
    omega (arith, some, same)

pub number_some : (s : Shards) (versions : List ℕ) (number : ℕ) (w : Whole)
    → IsSnapshot s versions number w → 1 ≤ number
number_some s versions number w is =
    let some = some_seen w is.one in
    let same = is.versions_are.directory in
    omega (arith, some, same)

-- a reader keeps the versions of a snapshot that it releases
pub released : (s : Shards) (versions : List ℕ) (number : ℕ) (w : Whole)
    → IsSnapshot s versions number w → IsReader s versions number w
released s versions number w is = record {
  sharding_is = is.one.sharding_is;
  own = is.own;
  directory = is.directory;
  begins = λ none. let some = number_some s versions number w is in
      absurd (omega (arith, some, none));
  last = λ some. record {
    block = w;
    one = is.one;
    seen = SeesOn-itself w;
    versions_are = is.versions_are;
  };
}

-- and a snapshot is what a reader pinned, if that is of one block
pub taken : (s : Shards) (versions found : List ℕ) (number n : ℕ) (w : Whole)
    → IsReader s versions number w → HasVersions found n w → IsOneBlock w
    → IsSnapshot s found n w
taken s versions found number n w was has one =
    record { one = one; own = was.own; directory = was.directory; versions_are = has }
