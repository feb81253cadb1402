-- The shards one after the other.
use Rattle.mst_shards.proofs.Names.{◌≡◌, ℕ, zero, suc, ◌+◌, ◌<◌, ◌≤◌, List, [], ◌∷◌, length, drop, get_or, refl, sym, ap, ◌∙◌, subst, arith, drop_more, Known, Shard, least, shards_from, maps_of, shard_from_at, shard_at}
use Rattle.mst_sharded_proof.specs.Shards.{shards as shards_at}
use Rattle.mst_shards.specs.Directory.{KeepWithin}
use Rattle.mst_shards.specs.Entries.{KeepsTo}

pub length-shards : (low : List ℕ) (splits : List (List ℕ))
    → length (shards_from low splits) ≡ length splits + 1
length-shards low [] = refl
length-shards low (s ∷ splits) =
    let long = length-shards s splits in
    let e : suc (length splits + 1) ≡ suc (length splits) + 1 = omega arith in
    ap suc long ∙ e

pub next_shard : (low s : List ℕ) (splits : List (List ℕ)) (i : ℕ) → shard_from_at s splits i
    ≡ shard_from_at low (s ∷ splits) (suc i)
next_shard low s splits zero = refl
next_shard low s splits (suc i) = refl

pub shard_get : (low : List ℕ) (splits : List (List ℕ)) (i : ℕ) (d : Shard) → i ≤ length splits
    → get_or (shards_from low splits) i d ≡ shard_from_at low splits i
shard_get low [] zero d le = refl
shard_get low [] (suc i) d le = absurd (omega (arith, le))
shard_get low (s ∷ splits) zero d le = refl
shard_get low (s ∷ splits) (suc i) d le =
    shard_get s splits i d (omega (arith, le)) ∙ next_shard low s splits i

pub drop_shards : (splits : List (List ℕ)) (i : ℕ) → i ≤ length splits
    → drop i (shards_at splits) ≡ shard_at splits i ∷ drop (i + 1) (shards_at splits)
drop_shards splits i le =
    let count = length-shards least splits in
    drop_more (shards_at splits) i (shard_at splits i) (omega (arith, le, count))
    ∙ ap (λ (s : Shard). s ∷ drop (i + 1) (shards_at splits))
    (shard_get least splits i (shard_at splits i) le)

pub keep_at : (shards : List Shard) (ps : List Known) (i : ℕ) (d : Shard) (e : Known)
    → i < length shards → i < length ps → KeepWithin shards (maps_of ps)
    → KeepsTo (get_or shards i d) (get_or ps i e)
keep_at [] ps i d e low low_p keep = absurd (omega (arith, low))
keep_at (s ∷ shards) [] i d e low low_p keep = absurd (omega (arith, low_p))
keep_at (s ∷ shards) (p ∷ ps) zero d e low low_p keep = keep.0
keep_at (s ∷ shards) (p ∷ ps) (suc i) d e low low_p keep =
    keep_at shards ps i d e (omega (arith, low)) (omega (arith, low_p)) keep.1

pub shard_keeps : (splits : List (List ℕ)) (ps : List Known) (i : ℕ) (p : Known)
    → length ps ≡ length splits + 1 → i < length ps → p ≡ get_or ps i p
    → KeepWithin (shards_at splits) (maps_of ps) → KeepsTo (shard_at splits i) p
shard_keeps splits ps i p count low is keep =
    let shards = length-shards least splits in
    subst (λ (q : Known). KeepsTo (shard_at splits i) q) (sym is)
    (subst (λ (s : Shard). KeepsTo s (get_or ps i p))
    (shard_get least splits i (shard_at splits i) (omega (arith, count, low)))
    (keep_at (shards_at splits) ps i (shard_at splits i) p (omega (arith, low, count, shards)) low
    keep))
