-- How many pairs the shards of a snapshot have together.
use Rattle.mst_snapshots.proofs.Names.{◌≡◌, ℕ, ◌+◌, ◌<◌, ◌≤◌, List, [], ◌∷◌, length, length-append, sum_by, take, refl, sym, ap, ◌∙◌, arith, take_all, Pair, after, Known, Shard, least, part_of, Whole, IsOneBlock, KeepWithin, HaveFewPairs, union, maps_of, map_of, length-shards, pass_at}
use Rattle.std.proofs.Common.{◌*◌, ◌^◌}
use Rattle.std.proofs.lemmas.List.Sums.{sum_by-cons, sum_by_more, sum_by-take-le}
use Rattle.mst_sharded_proof.specs.Shards.{shards as shards_at}
use Rattle.mst_snapshots.proofs.Staying.{read_at}

-- how many pairs a pass has seen last
abbrev pub pairs_in : Known → ℕ
pairs_in p = length (after p.seen)

-- shards that have keys of their intervals alone have all their pairs in the map of all shards
length-union : (shards : List Shard) (ps : List Known) → length shards ≡ length ps
    → KeepWithin shards (maps_of ps) → length (union shards (maps_of ps)) ≡ sum_by pairs_in ps
length-union [] [] same keep = refl
length-union [] (p ∷ ps) same keep = absurd (omega (arith, same))
length-union (s ∷ shards) [] same keep = absurd (omega (arith, same))
length-union (s ∷ shards) (p ∷ ps) same keep =
    let here : length (part_of (after p.seen) s) ≡ length (after p.seen) =
    ap (λ (m : List Pair). length m) keep.0 in
    let more = length-union shards ps (omega (arith, same)) keep.1 in
    let both = length-append (part_of (after p.seen) s) (union shards (maps_of ps)) in
    let all = sum_by-cons pairs_in p ps in
    omega (arith, here, more, both, all)

pub pairs_shown : (w : Whole) → IsOneBlock w
    → sum_by pairs_in w.sharding.shards ≡ length (map_of w.sharding)
pairs_shown w one =
    sym (length-union (shards_at w.sharding.splits) w.sharding.shards
    (length-shards least w.sharding.splits ∙ sym one.sharding_is.count) one.clean)

-- as many shards as a sharded map has have no more pairs than a word counts
few_in_all : (ps : List Known) → HaveFewPairs ps → sum_by pairs_in ps ≤ 65535 * length ps
few_in_all [] few = omega arith
few_in_all (p ∷ ps) few =
    let here : length (after p.seen) ≤ 65535 = few.0 in
    let more = few_in_all ps few.1 in
    let all = sum_by-cons pairs_in p ps in
    omega (arith, here, more, all)

-- the shards before a place are counted, and that of the place is
module _ (ps qs : List Known) (i n counted found : ℕ) (same : qs ≡ ps) (long : n ≡ length ps)
    (low : i < n) (were : counted ≡ sum_by pairs_in (take i ps))
    (is : found ≡ length (after (pass_at qs i).seen)) where
  here : found ≡ pairs_in (pass_at ps i)
  here = is ∙ ap (λ (l : List Known). pairs_in (pass_at l i)) same

  within : i < length ps
  within = omega (arith, low, long)

  pub counts_on : counted + found ≡ sum_by pairs_in (take (i + 1) ps)
  counts_on =
      let more = sum_by_more pairs_in ps i (pass_at ps i) within in
      let there = ap pairs_in (read_at ps i within) in
      omega (arith, were, here, there, more)

  pub counts_few : HaveFewPairs ps → n ≤ 1024 → counted + found < 2 ^ 64
  counts_few few most =
      let on = counts_on in
      let all = few_in_all ps few in
      let part = sum_by-take-le pairs_in ps (i + 1) in
      omega (arith, on, all, part, most, long)

-- all are counted
pub all_counted : (ps : List Known) (i n counted : ℕ) → n ≡ length ps → n ≤ i
    → counted ≡ sum_by pairs_in (take i ps) → counted ≡ sum_by pairs_in ps
all_counted ps i n counted long past were =
    were ∙ ap (λ (l : List Known). sum_by pairs_in l) (take_all i ps (omega (arith, past, long)))
