-- What a snapshot shows: the root digest, the pairs of the directory, and proofs.
use Rattle.mst_snapshots.proofs.Names.{◌≡◌, ℕ, ◌+◌, ◌≤◌, ◌&&◌, List, length, take, None, sym, ap, ◌∙◌, subst, arith, take_all, Format, Pair, from_on, below, map_range, after, filter-whole, proof_text, Known, format_seen, sharded_proof, Shard, least, part_of, directory, HasShardedRoot, length-directory, Whole, whole, IsOneBlock, AllIn, OfClean, low_at, shard_at, sharding, place, map_of, pass_at}
use Rattle.mst_node.specs.Text.{root as root_of}
use Rattle.mst_sharded_proof.specs.Frame.{framing}
use Rattle.mst_sharded_proof.specs.Shards.{shard_of}
use Rattle.mst_shards.proofs.Places.{place_within}
use Rattle.mst_shards.proofs.Rooted.{has_root, all_unbound, key_place}
use Rattle.mst_snapshots.proofs.Matching.{own_part, own_format}
use Rattle.mst_snapshots.proofs.Staying.{read_at, low_at_place}

shown : (Says : Format → List Pair → Type 0) (w : Whole) (one : IsOneBlock w)
    → Says one.format (map_of w.sharding) → OfClean Says w.sharding
shown Says w one says =
    record { format = one.format; same = one.same; clean = one.clean; says = says }

pub format_shown : (w : Whole) → IsOneBlock w → AllIn (format_seen w.directory) w.sharding
format_shown w one =
    subst (λ (f : Format). AllIn f w.sharding) (sym one.format_is) one.same

pub root_shown : (w : Whole) (digest : List ℕ) → IsOneBlock w
    → digest ≡ root_of (format_seen w.directory) (after w.directory.seen)
    → OfClean (λ f m. HasShardedRoot f m w.sharding.splits digest) w.sharding
root_shown w digest one is =
    shown (λ f m. HasShardedRoot f m w.sharding.splits digest) w one
    (has_root one.format w.sharding.splits w.sharding.shards digest one.sharding_is.splits_are
    one.sharding_is.count one.maps one.few
    (is ∙ ap (λ (f : Format). root_of f (after w.directory.seen)) one.format_is
    ∙ ap (λ (m : List Pair). root_of one.format m) one.listed))

pub pairs_shown : (w : Whole) (pairs : List Pair) (n : ℕ) → IsOneBlock w
    → n ≡ length w.sharding.shards → pairs ≡ map_range (after w.directory.seen) None None n
    → OfClean (λ f m. pairs ≡ directory f m w.sharding.splits) w.sharding
pairs_shown w pairs n one count is =
    let d = directory one.format (map_of w.sharding) w.sharding.splits in
    let size = length-directory one.format (map_of w.sharding) least w.sharding.splits in
    let shards : length w.sharding.shards ≡ length w.sharding.splits + 1 =
    one.sharding_is.count in
    shown (λ f m. pairs ≡ directory f m w.sharding.splits) w one
    (is ∙ ap (λ (m : List Pair). map_range m None None n) one.listed
    ∙ ap (λ (m : List Pair). take n m)
    (filter-whole (λ (p : Pair). from_on None p.0 && below None p.0) d (all_unbound d))
    ∙ take_all n d (omega (arith, count, size, shards)))

pub few_shown : (w : Whole) (pairs : List Pair) → IsOneBlock w
    → OfClean (λ f m. pairs ≡ directory f m w.sharding.splits) w.sharding → length pairs ≤ 1024
few_shown w pairs one clean =
    let few = one.sharding_is.splits_are.few in
    let size = length-directory clean.format (map_of w.sharding) least w.sharding.splits in
    let same : length pairs
    ≡ length (directory clean.format (map_of w.sharding) w.sharding.splits) =
    ap (λ (l : List Pair). length l) clean.says in
    omega (arith, few, size, same)

-- the proof of the directory for the lower bound of the key's shard, and below it the shard's for
-- the key
pub proof_shown : (splits : List (List ℕ)) (ps : List Known) (d : Known) (i : ℕ) (format : Format)
    (key low over under bytes : List ℕ) → IsOneBlock (whole splits ps d) → i ≡ place splits key
    → format ≡ format_seen d → low ≡ low_at splits i
    → over ≡ proof_text (format_seen d) (after d.seen) low
    → under ≡ proof_text (format_seen (pass_at ps i)) (after (pass_at ps i).seen) key
    → bytes ≡ framing format (record { low = low; directory = over; shard = under })
    → OfClean (λ f m. bytes ≡ sharded_proof f m splits key) (sharding splits ps)
proof_shown splits ps d i format key low over under bytes one at seen low_is over_is under_is joined
    =
    let within = place_within splits key in
    let inside : i ≤ length splits = omega (arith, within, at) in
    let there = low_at_place splits ps i one.sharding_is inside in
    let p = pass_at ps i in
    let here = read_at ps i there in
    let f = one.format in
    let m = map_of (sharding splits ps) in
    let s = shard_at splits i in
    let low_s : low ≡ s.low = low_is in
    let over_s : over ≡ proof_text f (directory f m splits) s.low =
    over_is ∙ ap (λ (g : Format). proof_text g (after d.seen) low) one.format_is
    ∙ ap (λ (n : List Pair). proof_text f n low) one.listed
    ∙ ap (λ (b : List ℕ). proof_text f (directory f m splits) b) low_s in
    let under_s : under ≡ proof_text f (part_of m s) key =
    under_is
    ∙ ap (λ (g : Format). proof_text g (after p.seen) key)
    (own_format splits ps d i p one there here ∙ one.format_is)
    ∙ ap (λ (n : List Pair). proof_text f n key) (sym (own_part splits ps d i p one there here)) in
    let chosen : s ≡ shard_of splits key =
    ap (shard_at splits) at ∙ sym (key_place splits key) in
    shown (λ g n. bytes ≡ sharded_proof g n splits key) (whole splits ps d) one
    (joined
    ∙ ap (λ (g : Format). framing g (record { low = low; directory = over; shard = under }))
    (seen ∙ one.format_is)
    ∙ ap (λ (b : List ℕ). framing f (record { low = b; directory = over; shard = under })) low_s
    ∙ ap (λ (b : List ℕ). framing f (record { low = s.low; directory = b; shard = under })) over_s
    ∙ ap (λ (b : List ℕ). framing f (record {
      low = s.low;
      directory = proof_text f (directory f m splits) s.low;
      shard = b;
    })) under_s
    ∙ ap (λ (t : Shard). framing f (record {
      low = t.low;
      directory = proof_text f (directory f m splits) t.low;
      shard = proof_text f (part_of m t) key;
    })) chosen)
