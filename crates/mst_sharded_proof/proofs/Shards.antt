-- The directory lists the shard of each key, and no other shard whose bounds the key keeps.
use Rattle.mst_sharded_proof.proofs.Names.{◌≡◌, ℕ, suc, Bool, true, false, cond, List, [], ◌∷◌, ◌++◌, length, take, drop, Some, None, ◌⊎◌, inl, inr, refl, sym, ◌∙◌, ap, subst, arith, true≢false, Less, is_lt, length-append, not, AllByRecursion, cond-true, cond-false, false_from_ne_true, take-append_seam, drop-append_seam, Format, IsKey, IsValue, Pair, key_cmp, map_get, IsMap, by_same, less_chain, less_from_test, map_get-here, map_get-past, tree, some_same, Shard, least, AreSplits, shards_from, shard_from, is_in, part_of, bound_text, listing, directory_from, directory, is_below}
use Rattle.std.proofs.Common.{◌≤◌}
use Rattle.std.specs.Prelude.{◌&&◌}
use Rattle.mst_key.specs.Map.{below, IsAscending, AllAbove}
use Rattle.mst_key.proofs.MapLaws.{map_get-filter, IsAscending-filter}
use Rattle.mst_key.proofs.Alls.{alls-filter}
use Rattle.mst_node.specs.Text.{root as root_of, text}
use Rattle.mst_node.proofs.MapTextsInGrammar.{sha256_digest}

-- ---- what the directory holds of a shard

pub length-root : (format : Format) (m : List Pair) → length (root_of format m) ≡ 32
length-root format m = (sha256_digest (text (tree format m))).size

pub listing-digest : (format : Format) (m : List Pair) (s : Shard) → take 32 (listing format m s)
    ≡ root_of format (part_of m s)
listing-digest format m s =
    let r = root_of format (part_of m s) in
    subst (λ (n : ℕ). take n (r ++ bound_text s.high) ≡ r) (length-root format (part_of m s))
    (take-append_seam r (bound_text s.high))

pub listing-bound : (format : Format) (m : List Pair) (s : Shard) → drop 32 (listing format m s)
    ≡ bound_text s.high
listing-bound format m s =
    let r = root_of format (part_of m s) in
    subst (λ (n : ℕ). drop n (r ++ bound_text s.high) ≡ bound_text s.high)
    (length-root format (part_of m s)) (drop-append_seam r (bound_text s.high))

-- ---- keys and bounds

-- a key that is not below a bound is not below a lesser one either
not_below_lesser : (k low s : List ℕ) → is_lt (key_cmp k low) ≡ false
    → (s ≡ low) ⊎ (key_cmp s low ≡ Less) → is_lt (key_cmp k s) ≡ false
not_below_lesser k low s from (inl same) =
    ap (λ (b : List ℕ). is_lt (key_cmp k b)) same ∙ from
not_below_lesser k low s from (inr less) =
    false_from_ne_true (is_lt (key_cmp k s)) (λ e.
    true≢false (sym (ap is_lt (less_chain k s low (less_from_test k s e) less)) ∙ from))

-- a lower bound that the directory from a bound on lists is this bound or above it
pub listed_from : (format : Format) (m : List Pair) (s : List ℕ) (splits : List (List ℕ))
    (low v : List ℕ) → AreSplits s splits → map_get (directory_from format m s splits) low ≡ Some v
    → (s ≡ low) ⊎ (key_cmp s low ≡ Less)
listed_from format m s [] low v rising is =
    let here : Pair = (s, listing format m (record { low = s; high = None })) in
    by_same s low (λ same. inl same)
    (λ other. absurd (cc (sym (map_get-past here [] low other) ∙ is)))
listed_from format m s (t ∷ splits) low v rising is =
    let here : Pair = (s, listing format m (record { low = s; high = Some t })) in
    by_same s low (λ same. inl same) (λ other.
    elim (listed_from format m t splits low v rising.2
    (sym (map_get-past here (directory_from format m t splits) low other) ∙ is)) [
      | inl same ↦ inr (subst (λ (b : List ℕ). key_cmp s b ≡ Less) same rising.0)
      | inr less ↦ inr (less_chain s t low rising.0 less)
    ])

-- ---- the shard that is listed

-- what is held of the key's shard, in which the key lies
pub record Found (format : Format) (m : List Pair) (s : Shard) (low v k : List ℕ) : Type 0 where
  pub bound : s.low ≡ low
  pub value : v ≡ listing format m s
  pub inside : is_in s k ≡ true

pub inside_last : (low k : List ℕ) → is_lt (key_cmp k low) ≡ false
    → is_in (record { low = low; high = None }) k ≡ true
inside_last low k from = ap (λ (b : Bool). not b && true) from

pub inside_one : (low s k : List ℕ) → is_lt (key_cmp k low) ≡ false → is_lt (key_cmp k s) ≡ true
    → is_in (record { low = low; high = Some s }) k ≡ true
inside_one low s k from to = ap (λ (b : Bool). not b && is_lt (key_cmp k s)) from ∙ to

below_key : (s k : List ℕ) → IsKey s → is_below s k ≡ true → is_lt (key_cmp k s) ≡ true
below_key [] k is below = absurd (omega (arith, is.0))
below_key (b ∷ s) k is below = below

pub found : (format : Format) (m : List Pair) (first : List ℕ) (splits : List (List ℕ))
    (low v k : List ℕ) → AreSplits first splits
    → map_get (directory_from format m first splits) low ≡ Some v
    → is_lt (key_cmp k low) ≡ false → is_below (drop 32 v) k ≡ true
    → Found format m (shard_from first splits k) low v k
found format m first [] low v k rising is from to =
    let s : Shard = record { low = first; high = None } in
    let here : Pair = (first, listing format m s) in
    by_same first low (λ same. record {
      bound = same;
      value = sym (some_same (listing format m s) v (sym (map_get-here here [] low same) ∙ is));
      inside = inside_last first k (ap (λ (b : List ℕ). is_lt (key_cmp k b)) same ∙ from);
    }) (λ other. absurd (cc (sym (map_get-past here [] low other) ∙ is)))
found format m first (t ∷ splits) low v k rising is from to =
    let s : Shard = record { low = first; high = Some t } in
    let here : Pair = (first, listing format m s) in
    let rest = directory_from format m t splits in
    by_same first low (λ same.
    let value : v ≡ listing format m s =
    sym (some_same (listing format m s) v (sym (map_get-here here rest low same) ∙ is)) in
    let bound : drop 32 v ≡ t = ap (λ (x : List ℕ). drop 32 x) value ∙ listing-bound format m s in
    let less = below_key t k rising.1 (subst (λ (b : List ℕ). is_below b k ≡ true) bound to) in
    let chosen = cond-true (is_lt (key_cmp k t)) s (shard_from t splits k) less in
    subst (λ (x : Shard). Found format m x low v k) (sym chosen) (record {
      bound = same;
      value = value;
      inside = inside_one first t k (ap (λ (b : List ℕ). is_lt (key_cmp k b)) same ∙ from) less;
    })) (λ other.
    let is_rest = sym (map_get-past here rest low other) ∙ is in
    let past =
    not_below_lesser k low t from (listed_from format m t splits low v rising.2 is_rest) in
    let chosen = cond-false (is_lt (key_cmp k t)) s (shard_from t splits k) past in
    subst (λ (x : Shard). Found format m x low v k) (sym chosen)
    (found format m t splits low v k rising.2 is_rest from to))

-- ---- the directory is a map, and each shard's part of a map too

above_all : (format : Format) (m : List Pair) (b first : List ℕ) (splits : List (List ℕ))
    → key_cmp b first ≡ Less → AreSplits first splits
    → AllAbove (directory_from format m first splits) b
above_all format m b first [] less rising = (less, tt)
above_all format m b first (s ∷ splits) less rising = (
  less,
  above_all format m b s splits (less_chain b first s less rising.0) rising.2,
)

directory_rises : (format : Format) (m : List Pair) (first : List ℕ) (splits : List (List ℕ))
    → AreSplits first splits → IsAscending (directory_from format m first splits)
directory_rises format m first [] rising = (tt, tt)
directory_rises format m first (s ∷ splits) rising = (
  above_all format m first s splits rising.0 rising.2,
  directory_rises format m s splits rising.2,
)

listing_fits : (format : Format) (m : List Pair) (s : Shard) → length (bound_text s.high) ≤ 32
    → IsValue (listing format m s)
listing_fits format m s short = omega (
  arith,
  short,
  length-root format (part_of m s),
  length-append (root_of format (part_of m s)) (bound_text s.high),
)

directory_fits : (format : Format) (m : List Pair) (first : List ℕ) (splits : List (List ℕ))
    → IsKey first → AreSplits first splits
    → AllByRecursion (λ (p : Pair). IsKey p.0 × IsValue p.1) (directory_from format m first splits)
directory_fits format m first [] is rising =
    ((is, listing_fits format m (record { low = first; high = None }) (omega arith)), tt)
directory_fits format m first (s ∷ splits) is rising = (
  (is, listing_fits format m (record { low = first; high = Some s }) rising.1.1),
  directory_fits format m s splits rising.1 rising.2,
)

pub directory_map : (format : Format) (m : List Pair) (splits : List (List ℕ))
    → AreSplits least splits → IsMap (directory format m splits)
directory_map format m splits rising =
    record {
      ascending = directory_rises format m least splits rising;
      limits = directory_fits format m least splits (omega arith, omega arith) rising;
    }

pub length-directory : (format : Format) (m : List Pair) (first : List ℕ) (splits : List (List ℕ))
    → length (directory_from format m first splits) ≡ suc (length splits)
length-directory format m first [] = refl
length-directory format m first (s ∷ splits) = ap suc (length-directory format m s splits)

pub part_map : (m : List Pair) (s : Shard) → IsMap m → IsMap (part_of m s)
part_map m s is =
    record {
      ascending = IsAscending-filter (λ (p : Pair). is_in s p.0) m is.ascending;
      limits = alls-filter (λ (p : Pair). IsKey p.0 × IsValue p.1) (λ (p : Pair). is_in s p.0) m
          is.limits;
    }

-- the part of a map has the map's answer for each key that lies in the shard
pub part_get : (m : List Pair) (s : Shard) (k : List ℕ) → is_in s k ≡ true
    → map_get (part_of m s) k ≡ map_get m k
part_get m s k inside = map_get-filter (is_in s) m k inside

-- what holds of each shard holds of the key's
pub of_each : (P : Shard → Type 0) (first : List ℕ) (splits : List (List ℕ)) (k : List ℕ)
    → AllByRecursion P (shards_from first splits) → P (shard_from first splits k)
of_each P first [] k all = all.0
of_each P first (s ∷ splits) k all = go (of_each P s splits k all.1) (is_lt (key_cmp k s))
  where
    go : P (shard_from s splits k) → (t : Bool)
        → P (cond t (record { low = first; high = Some s }) (shard_from s splits k))
    go rest true = all.0
    go rest false = rest
