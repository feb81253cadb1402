-- A sharded map has its root digest.
use Rattle.mst_shards.proofs.Names.{◌≡◌, ℕ, zero, suc, ◌+◌, ◌<◌, ◌≤◌, ◌&&◌, Bool, true, false, cond, List, [], ◌∷◌, length, filter, get_or, Some, None, is_lt, refl, ap, ◌∙◌, arith, AllByRecursion, Format, Pair, key_cmp, from_on, below, IsMap, after, Known, Shard, least, part_of, IsSplits, place, sharding, maps_of, map_of, shard_from_at, shard_at}
use Rattle.mst_store.specs.Passes.{most_rows}
use Rattle.mst_sharded_proof.specs.Shards.{shards as shards_at, shard_from, shard_of, sharded_root}
use Rattle.mst_sharded_proof.specs.Theorem.{HasShardedRoot}
use Rattle.mst_shards.specs.Sharding.{HaveFewPairs}
use Rattle.mst_shards.proofs.Intervals.{next_shard, length-shards}
use Rattle.mst_shards.proofs.ShardParts.{HasParts, parts, union_map}

pub each_map : (ps : List Known) → AllByRecursion (λ (p : Known). IsMap (after p.seen)) ps
    → AllByRecursion IsMap (maps_of ps)
each_map [] all = tt
each_map (p ∷ ps) all = (all.0, each_map ps all.1)

fewer : (test : Pair → Bool) (m : List Pair) → length (filter test m) ≤ length m
fewer test [] = omega arith
fewer test (p ∷ m) = go (test p) (fewer test m)
  where
    go : (b : Bool) → length (filter test m) ≤ length m
        → length (cond b (p ∷ filter test m) (filter test m)) ≤ suc (length m)
    go true few = omega (arith, few)
    go false few = omega (arith, few)

few_in : (whole m : List Pair) (s : Shard) → part_of whole s ≡ part_of m s → length m ≤ most_rows
    → length (part_of whole s) ≤ most_rows
few_in whole m s same few =
    let count : length (part_of whole s) ≡ length (part_of m s) =
    ap (λ (l : List Pair). length l) same in
    let part : length (part_of m s) ≤ length m = fewer _ m in
    omega (arith, count, part, few)

few_each : (whole : List Pair) (shards : List Shard) (ps : List Known)
    → length shards ≡ length ps → HasParts whole shards (maps_of ps)
    → HaveFewPairs ps
    → AllByRecursion (λ (s : Shard). length (part_of whole s) ≤ most_rows) shards
few_each whole [] ps count have few = tt
few_each whole (s ∷ shards) [] count have few = absurd (omega (arith, count))
few_each whole (s ∷ shards) (p ∷ ps) count have few = (
  few_in whole (after p.seen) s have.0 few.0,
  few_each whole shards ps (omega (arith, count)) have.1 few.1,
)

pub has_root : (format : Format) (splits : List (List ℕ)) (ps : List Known) (digest : List ℕ)
    → IsSplits splits → length ps ≡ length splits + 1
    → AllByRecursion (λ (p : Known). IsMap (after p.seen)) ps
    → HaveFewPairs ps
    → digest ≡ sharded_root format (map_of (sharding splits ps)) splits
    → HasShardedRoot format (map_of (sharding splits ps)) splits digest
has_root format splits ps digest is count maps few root =
    let shards = length-shards least splits in
    let few_splits = is.few in
    record {
      sharded = record {
        map = union_map least splits (maps_of ps) is.rising (each_map ps maps);
        rising = is.rising;
        few_shards = omega (arith, few_splits);
        few = few_each (map_of (sharding splits ps)) (shards_at splits) ps
            (omega (arith, count, shards)) (parts least splits (maps_of ps) is.rising) few;
      };
      root = root;
    }

pub all_unbound : (m : List Pair)
    → AllByRecursion (λ (p : Pair). (from_on None p.0 && below None p.0)
    ≡ true) m
all_unbound [] = tt
all_unbound (p ∷ m) = (refl, all_unbound m)

pub shard_place : (low : List ℕ) (splits : List (List ℕ)) (k : List ℕ) → shard_from low splits k
    ≡ shard_from_at low splits (place splits k)
shard_place low [] k = refl
shard_place low (s ∷ splits) k = go (is_lt (key_cmp k s)) (shard_place s splits k)
  where
    go : (b : Bool) → shard_from s splits k ≡ shard_from_at s splits (place splits k)
        → cond b (record { low = low; high = Some s }) (shard_from s splits k)
        ≡ shard_from_at low (s ∷ splits) (cond b 0 (suc (place splits k)))
    go true rest = refl
    go false rest = rest ∙ next_shard low s splits (place splits k)

pub key_place : (splits : List (List ℕ)) (k : List ℕ) → shard_of splits k
    ≡ shard_at splits (place splits k)
key_place splits k = shard_place least splits k

pub part_at : (whole : List Pair) (shards : List Shard) (ps : List Known) (i : ℕ) (d : Shard)
    (e : Known) → i < length shards → i < length ps → HasParts whole shards (maps_of ps)
    → part_of whole (get_or shards i d)
    ≡ part_of (after (get_or ps i e).seen) (get_or shards i d)
part_at whole [] ps i d e low low_p have = absurd (omega (arith, low))
part_at whole (s ∷ shards) [] i d e low low_p have = absurd (omega (arith, low_p))
part_at whole (s ∷ shards) (p ∷ ps) zero d e low low_p have = have.0
part_at whole (s ∷ shards) (p ∷ ps) (suc i) d e low low_p have =
    part_at whole shards ps i d e (omega (arith, low)) (omega (arith, low_p)) have.1
