-- Blocks one after another, and the versions of the directory that record them.
use Rattle.mst_blocks.proofs.Names.{◌≡◌, ◌⊎◌, inl, inr, ℕ, zero, suc, ◌+◌, ◌<◌, ◌≤◌, List, [], ◌∷◌, ◌++◌, length, take, refl, sym, ap, ◌∙◌, subst, arith, take_all, take-append-le, length-append, Format, Edit, Event, History, after, batched, Pair, directory, IsSharded, HasShardedRoot, HasBytes, CollideForKey, Blocks, map_made, Records, Whole, IsOneBlock, map_of}
use Rattle.std.proofs.lemmas.Bool.{cases_order}
use Rattle.mst_node.specs.Text.{root as root_of}
use Rattle.mst_sharded_proof.proofs.OneRoot.{one_root}
use Rattle.mst_shards.specs.BlockHistory.{made_from}
use Rattle.mst_shards.proofs.Rooted.{has_root}

-- ---- one block

pub block_root : (w : Whole) (o : IsOneBlock w) → HasShardedRoot o.format (map_of w.sharding)
    w.sharding.splits (root_of o.format (after w.directory.seen))
block_root w o = has_root o.format w.sharding.splits w.sharding.shards
    (root_of o.format (after w.directory.seen)) o.sharding_is.splits_are o.sharding_is.count o.maps
    o.few (ap (λ (m : List Pair). root_of o.format m) o.listed)

-- the last version that is recorded is that of the last block
pub recorded : (format : Format) (splits : List (List ℕ)) (log : History) (blocks : Blocks)
    → Records format splits log blocks
    → (after log ≡ directory format (map_made blocks) splits) × IsSharded (map_made blocks) splits
recorded format splits log blocks r =
    let all : take (length blocks) blocks ≡ blocks = take_all (length blocks) blocks
    (omega arith) in
    let whole : take (length blocks + 1) log ≡ log = take_all (length blocks + 1) log
    (let n = r.count in omega (arith, n)) in (
      ap after (sym whole) ∙ r.lists (length blocks) (omega arith)
          ∙ ap (λ (bs : Blocks). directory format (map_made bs) splits) all,
      subst (λ (bs : Blocks). IsSharded (map_made bs) splits) all
          (r.sharded (length blocks) (omega arith)),
    )

pub block_map : (w : Whole) (o : IsOneBlock w) (blocks : Blocks)
    → Records o.format w.sharding.splits w.directory.seen blocks
    → HasBytes o.format (map_of w.sharding) w.sharding.splits
    → (map_of w.sharding ≡ map_made blocks)
    ⊎ CollideForKey o.format (map_of w.sharding) w.sharding.splits (map_made blocks)
    w.sharding.splits
block_map w o blocks r bytes =
    let last = recorded o.format w.sharding.splits w.directory.seen blocks r in
    let splits = w.sharding.splits in
    let root = root_of o.format (after w.directory.seen) in
    let other : HasShardedRoot o.format (map_made blocks) splits root = record {
      sharded = last.1;
      root = ap (λ (m : List Pair). root_of o.format m) last.0;
    } in
    elim (one_root o.format (map_of w.sharding) (map_made blocks) splits splits root
    (block_root w o) other bytes) [
      | inl same ↦ inl same.0
      | inr c ↦ inr c
    ]

-- ---- one block more

pub made_more : (m : List Pair) (blocks : Blocks) (edits : List Edit)
    → made_from m (blocks ++ edits ∷ []) ≡ batched (made_from m blocks) edits
made_more m [] edits = refl
made_more m (b ∷ blocks) edits = made_more (batched m b) blocks edits

pub records_more : (format : Format) (splits : List (List ℕ)) (log : History) (blocks : Blocks)
    (e : Event) (edits : List Edit) → Records format splits log blocks
    → after (log ++ e ∷ []) ≡ directory format (batched (map_made blocks) edits) splits
    → IsSharded (batched (map_made blocks) edits) splits
    → Records format splits (log ++ e ∷ []) (blocks ++ edits ∷ [])
records_more format splits log blocks e edits r now sharded = record {
  count = (let a = length-append log (e ∷ []) in let b = length-append blocks (edits ∷ []) in
      let n = r.count in omega (arith, a, b, n));
  lists = λ n le. elim (cases_order n (length blocks + 1)) [
    | inl is ↦ listed_last n is
    | inr (inl less) ↦ listed_before n less
    | inr (inr above) ↦ absurd (let b = length-append blocks (edits ∷ []) in
        omega (arith, le, above, b))
  ];
  sharded = λ n le. elim (cases_order n (length blocks + 1)) [
    | inl is ↦ sharded_last n is
    | inr (inl less) ↦ sharded_before n less
    | inr (inr above) ↦ absurd (let b = length-append blocks (edits ∷ []) in
        omega (arith, le, above, b))
  ];
}
  where
    all_blocks : (n : ℕ) → n ≡ length blocks + 1 → take n (blocks ++ edits ∷ []) ≡ blocks ++ edits
        ∷ []
    all_blocks n is = take_all n (blocks ++ edits ∷ [])
        (let b = length-append blocks (edits ∷ []) in omega (arith, b, is))

    listed_last : (n : ℕ) → n ≡ length blocks + 1 → after (take (n + 1) (log ++ e ∷ []))
        ≡ directory format (map_made (take n (blocks ++ edits ∷ []))) splits
    listed_last n is =
        ap after (take_all (n + 1) (log ++ e ∷ [])
        (let a = length-append log (e ∷ []) in let c = r.count in omega (arith, a, c, is)))
        ∙ now ∙ ap (λ (m : List Pair). directory format m splits)
        (sym (made_more [] blocks edits))
        ∙ ap (λ (bs : Blocks). directory format (map_made bs) splits) (sym (all_blocks n is))

    listed_before : (n : ℕ) → n < length blocks + 1 → after (take (n + 1) (log ++ e ∷ []))
        ≡ directory format (map_made (take n (blocks ++ edits ∷ []))) splits
    listed_before n less =
        ap after (take-append-le (n + 1) log (e ∷ []) (let c = r.count in omega (arith, c, less)))
        ∙ r.lists n (omega (arith, less))
        ∙ ap (λ (bs : Blocks). directory format (map_made bs) splits)
        (sym (take-append-le n blocks (edits ∷ []) (omega (arith, less))))

    sharded_last : (n : ℕ) → n ≡ length blocks + 1
        → IsSharded (map_made (take n (blocks ++ edits ∷ []))) splits
    sharded_last n is = subst (λ (bs : Blocks). IsSharded (map_made bs) splits)
        (sym (all_blocks n is))
        (subst (λ (m : List Pair). IsSharded m splits) (sym (made_more [] blocks edits)) sharded)

    sharded_before : (n : ℕ) → n < length blocks + 1
        → IsSharded (map_made (take n (blocks ++ edits ∷ []))) splits
    sharded_before n less = subst (λ (bs : Blocks). IsSharded (map_made bs) splits)
        (sym (take-append-le n blocks (edits ∷ []) (omega (arith, less))))
        (r.sharded n (omega (arith, less)))

-- ---- the first of the blocks

take_both : {X : Type 0} (n k : ℕ) (xs : List X) → n ≤ k → take n (take k xs) ≡ take n xs
take_both zero k xs le = refl
take_both (suc n) zero xs le = absurd (omega (arith, le))
take_both (suc n) (suc k) [] le = refl
take_both (suc n) (suc k) (x ∷ xs) le = ap (λ ys. x ∷ ys) (take_both n k xs (omega (arith, le)))

pub records_fewer : (format : Format) (splits : List (List ℕ)) (log rest : History)
    (blocks : Blocks) (n : ℕ) → Records format splits (log ++ rest) blocks → length log ≡ n + 1
    → Records format splits log (take n blocks)
records_fewer format splits log rest blocks n r count =
    let len = length-append log rest in
    let all = r.count in
    let few : n ≤ length blocks = omega (arith, len, all, count) in
    let short : length (take n blocks) ≡ n = length_taken n blocks few in
    record {
      count = omega (arith, count, short);
      lists = λ k le. ap after (sym (take-append-le (k + 1) log rest
          (omega (arith, count, short, le)))) ∙ r.lists k (omega (arith, le, short, few))
          ∙ ap (λ (bs : Blocks). directory format (map_made bs) splits)
          (sym (take_both k n blocks (omega (arith, le, short))));
      sharded = λ k le. subst (λ (bs : Blocks). IsSharded (map_made bs) splits)
          (sym (take_both k n blocks (omega (arith, le, short))))
          (r.sharded k (omega (arith, le, short, few)));
    }
  where
    length_taken : {X : Type 0} (k : ℕ) (xs : List X) → k ≤ length xs → length (take k xs) ≡ k
    length_taken zero xs le = refl
    length_taken (suc k) [] le = absurd (omega (arith, le))
    length_taken (suc k) (x ∷ xs) le = ap suc (length_taken k xs (omega (arith, le)))
