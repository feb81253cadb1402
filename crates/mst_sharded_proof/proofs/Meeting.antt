-- Pairs whose listings meet are those of the shards of some splits.
use Rattle.mst_sharded_proof.proofs.Names.{◌≡◌, ℕ, List, [], ◌∷◌, ◌++◌, length, map, take, drop, Option, Some, None, refl, sym, ◌∙◌, ap, subst, arith, length-append, ◌≤◌, AllByRecursion, drop-append_seam, IsKey, Pair, key_cmp, Shard, least, AreSplits, shards_from, bound_text, AreListed, AllMeet, Opens}
use Rattle.std.specs.declared.cmp.Ordering.TheVariants.{Less}
use Rattle.mst_sharded_proof.specs.Audit.{IsListed}
use Rattle.mst_sharded_proof.proofs.Agreed.{front_and_rest, length-front}

abbrev pub AllKeys : List Pair → Type 0
AllKeys pairs = AllByRecursion (λ (p : Pair). IsKey p.0) pairs

-- ---- from listings to splits

-- the lower bounds of the shards after the first
abbrev pub bounds : List Pair → List (List ℕ)
bounds pairs = map (λ (p : Pair). p.0) pairs

one_listed : (p : Pair) (high : Option (List ℕ)) → 32 ≤ length p.1
    → drop 32 p.1 ≡ bound_text high → IsListed (record { low = p.0; high = high }) p
one_listed p high long rest =
    record {
      low = refl;
      digest = take 32 p.1;
      size = length-front 32 p.1 long;
      held = front_and_rest 32 p.1 ∙ ap (λ (xs : List ℕ). take 32 p.1 ++ xs) rest;
    }

pub all_listed : (p : Pair) (pairs : List Pair) → AllKeys pairs → AllMeet (p ∷ pairs)
    → AreSplits p.0 (bounds pairs) × AreListed (shards_from p.0 (bounds pairs)) (p ∷ pairs)
all_listed p [] keys meet = (tt, (one_listed p None meet.0.0 meet.0.1, tt))
all_listed p (q ∷ pairs) keys meet =
    let rest = all_listed q pairs keys.1 meet.1 in (
      (meet.0.0.1, keys.0, rest.0),
      (one_listed p (Some q.0) meet.0.0.0 meet.0.1, rest.1),
    )

-- ---- and back

first_listed : (low : List ℕ) (splits : List (List ℕ)) (pairs : List Pair)
    → AreListed (shards_from low splits) pairs
    → (p : Pair) × (rest : List Pair) × (pairs ≡ p ∷ rest) × (p.0 ≡ low)
first_listed low [] [] l = absurd l
first_listed low [] (p ∷ rest) l = (p, rest, refl, l.0.low)
first_listed low (s ∷ splits) [] l = absurd l
first_listed low (s ∷ splits) (p ∷ rest) l = (p, rest, refl, l.0.low)

-- the pair lists a shard with this upper bound
long_listing : (s : Shard) (p : Pair) → IsListed s p → 32 ≤ length p.1
long_listing s p is =
    omega (
      arith,
      is.size,
      ap length is.held,
      length-append is.digest (bound_text s.high),
    )

bound_listed : (s : Shard) (p : Pair) → IsListed s p → drop 32 p.1 ≡ bound_text s.high
bound_listed s p is =
    ap (λ (xs : List ℕ). drop 32 xs) is.held
    ∙ subst (λ (n : ℕ). drop n (is.digest ++ bound_text s.high) ≡ bound_text s.high) is.size
    (drop-append_seam is.digest (bound_text s.high))

no_pairs : (p : Pair) (rest : List Pair) → [] ≡ p ∷ rest → ⊥
no_pairs p rest e = cc

same_first : (q p : Pair) (pairs rest : List Pair) → q ∷ pairs ≡ p ∷ rest → q ≡ p
same_first q p pairs rest e = cc

pub all_meet : (low : List ℕ) (splits : List (List ℕ)) (pairs : List Pair) → AreSplits low splits
    → AreListed (shards_from low splits) pairs → AllMeet pairs
all_meet low [] [] rising l = absurd l
all_meet low [] (p ∷ []) rising l =
    let s : Shard = record { low = low; high = None } in
    ((long_listing s p l.0, bound_listed s p l.0), tt)
all_meet low [] (p ∷ q ∷ pairs) rising l = absurd l.1
all_meet low (s ∷ splits) [] rising l = absurd l
all_meet low (s ∷ splits) (p ∷ []) rising l =
    let first = first_listed s splits [] l.1 in
    absurd (no_pairs first.0 first.1 first.2)
all_meet low (s ∷ splits) (p ∷ q ∷ pairs) rising l =
    let here : Shard = record { low = low; high = Some s } in
    let first = first_listed s splits (q ∷ pairs) l.1 in
    let next : s ≡ q.0 = sym (ap (λ (x : Pair). x.0)
    (same_first q first.0 pairs first.1 first.2) ∙ first.3) in
    let less : key_cmp p.0 q.0 ≡ Less =
    ap (λ (b : List ℕ). key_cmp b q.0) l.0.low
    ∙ ap (λ (b : List ℕ). key_cmp low b) (sym next) ∙ rising.0 in (
      ((long_listing here p l.0, less), bound_listed here p l.0 ∙ next),
      all_meet s splits (q ∷ pairs) rising.2 l.1,
    )

pub opens : (splits : List (List ℕ)) (pairs : List Pair)
    → AreListed (shards_from least splits) pairs → Opens pairs
opens splits [] l = let first = first_listed least splits [] l in
    absurd (no_pairs first.0 first.1 first.2)
opens splits (p ∷ pairs) l =
    let first = first_listed least splits (p ∷ pairs) l in
    ap (λ (x : Pair). x.0) (same_first p first.0 pairs first.1 first.2) ∙ first.3
