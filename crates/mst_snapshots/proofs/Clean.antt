-- Whether a map has keys of one shard alone: its first key is not below the shard's lower bound,
-- and it has none from the upper one on.
use Rattle.mst_snapshots.proofs.Names.{◌≡◌, ℕ, ◌&&◌, true, false, cond, List, [], ◌∷◌, find, slice_get, Option, Some, None, refl, sym, ap, ◌∙◌, subst, Less, AllByRecursion, same_Some, Pair, key_cmp, from_on, below, map_next, IsAscending, filter-whole, Shard, part_of, low_at, shard_at}
use Rattle.std.proofs.Common.{Bool, true≢false, not, is_lt}
use Rattle.std.proofs.lemmas.Bool.{false_from_ne_true}
use Rattle.mst_key.proofs.Alls.{alls-both, alls-weaker, alls-passes}
use Rattle.mst_key.proofs.KeyOrder.{less_chain, less_from_test}
use Rattle.mst_sharded_proof.specs.Shards.{is_in}
use Rattle.mst_shards.proofs.Unions.{and_left, and_right}

-- ---- below a bound

-- a key above one that is not below a bound is not below it either
later_from : (k q low : List ℕ) → key_cmp k q ≡ Less → is_lt (key_cmp k low) ≡ false
    → is_lt (key_cmp q low) ≡ false
later_from k q low less from =
    false_from_ne_true (is_lt (key_cmp q low)) (λ e.
    true≢false (sym (ap is_lt (less_chain k q low less (less_from_test q low e))) ∙ from))

pub not_true : (b : Bool) → not b ≡ false → b ≡ true
not_true true is = refl
not_true false is = absurd (true≢false is)

abbrev pub AllFromOn : List ℕ → List Pair → Type 0
AllFromOn low m = AllByRecursion (λ (p : Pair). from_on (Some low) p.0 ≡ true) m

-- where no pair is first, there is none
pub none_first : (m : List Pair) (low : List ℕ) → map_next m None ≡ None → AllFromOn low m
none_first [] low none = tt
none_first (p ∷ m) low none = absurd (let f : Some p ≡ None = none in cc)

-- the first key decides
pub first_from_on : (m : List Pair) (low k v : List ℕ) → IsAscending m
    → map_next m None ≡ Some (k, v) → is_lt (key_cmp k low) ≡ false → AllFromOn low m
first_from_on [] low k v rise found from =
    absurd (let pair : Pair = (k, v) in let f : None ≡ Some pair = found in cc)
first_from_on (p ∷ m) low k v rise found from =
    let key : p.0 ≡ k = ap (λ (x : Pair). x.0) (same_Some p (k, v) found) in
    let here : is_lt (key_cmp p.0 low) ≡ false =
    ap (λ (x : List ℕ). is_lt (key_cmp x low)) key ∙ from in (
      ap not here,
      alls-weaker (λ (q : Pair). key_cmp p.0 q.0 ≡ Less)
          (λ (q : Pair). from_on (Some low) q.0 ≡ true)
          (λ q less. ap not (later_from p.0 q.0 low less here)) m rise.0,
    )

pub first_below : (m : List Pair) (low k v : List ℕ) → map_next m None ≡ Some (k, v)
    → is_lt (key_cmp k low) ≡ true → AllFromOn low m → ⊥
first_below [] low k v found less all =
    let pair : Pair = (k, v) in let f : None ≡ Some pair = found in cc
first_below (p ∷ m) low k v found less all =
    let key : p.0 ≡ k = ap (λ (x : Pair). x.0) (same_Some p (k, v) found) in
    true≢false (sym all.0 ∙ ap (λ (x : List ℕ). not (is_lt (key_cmp x low))) key ∙ ap not less)

-- ---- from a bound on

abbrev pub AllBelowBound : Option (List ℕ) → List Pair → Type 0
AllBelowBound high m = AllByRecursion (λ (p : Pair). below high p.0 ≡ true) m

pub none_from_on : (m : List Pair) (k : List ℕ)
    → find (λ (p : Pair). from_on (Some k) p.0) m ≡ None → AllBelowBound (Some k) m
none_from_on [] k none = tt
none_from_on (p ∷ m) k none = go (is_lt (key_cmp p.0 k)) refl none (none_from_on m k)
  where
    go : (b : Bool) → is_lt (key_cmp p.0 k) ≡ b
        → cond (not b) (Some p) (find (λ (q : Pair). from_on (Some k) q.0) m) ≡ None
        → (find (λ (q : Pair). from_on (Some k) q.0) m ≡ None → AllBelowBound (Some k) m)
        → AllBelowBound (Some k) (p ∷ m)
    go true less none later = (less, later none)
    go false past none later = absurd (let f : Some p ≡ None = none in cc)

pub some_from_on : (m : List Pair) (k : List ℕ) (x : Pair)
    → find (λ (p : Pair). from_on (Some k) p.0) m ≡ Some x → AllBelowBound (Some k) m → ⊥
some_from_on [] k x some all = let f : None ≡ Some x = some in cc
some_from_on (p ∷ m) k x some all =
    some_from_on m k x
    (sym (ap (λ (b : Bool). cond (not b) (Some p)
    (find (λ (q : Pair). from_on (Some k) q.0) m)) all.0) ∙ some) all.1

pub none_unbound : (m : List Pair) → AllBelowBound None m
none_unbound [] = tt
none_unbound (p ∷ m) = (refl, none_unbound m)

-- ---- both

both : (a b : Bool) → a ≡ true → b ≡ true → a && b ≡ true
both a b x y = ap (λ (c : Bool). c && b) x ∙ y

keeps_both : (m : List Pair) (s : Shard) → AllFromOn s.low m → AllBelowBound s.high m
    → part_of m s ≡ m
keeps_both m s low high =
    filter-whole (λ (p : Pair). is_in s p.0) m
    (alls-both (λ (p : Pair). from_on (Some s.low) p.0 ≡ true)
    (λ (p : Pair). below s.high p.0 ≡ true) (λ (p : Pair). is_in s p.0 ≡ true)
    (λ p. both (from_on (Some s.low) p.0) (below s.high p.0)) m low high)

all_in : (m : List Pair) (s : Shard) → part_of m s ≡ m
    → AllByRecursion (λ (p : Pair). is_in s p.0 ≡ true) m
all_in m s keep =
    subst (λ (l : List Pair). AllByRecursion (λ (p : Pair). is_in s p.0 ≡ true) l) keep
    (alls-passes (λ (p : Pair). is_in s p.0) m)

keeps_low : (m : List Pair) (s : Shard) → part_of m s ≡ m → AllFromOn s.low m
keeps_low m s keep =
    alls-weaker (λ (p : Pair). is_in s p.0 ≡ true)
    (λ (p : Pair). from_on (Some s.low) p.0 ≡ true)
    (λ p. and_left (from_on (Some s.low) p.0) (below s.high p.0)) m (all_in m s keep)

keeps_high : (m : List Pair) (s : Shard) → part_of m s ≡ m → AllBelowBound s.high m
keeps_high m s keep =
    alls-weaker (λ (p : Pair). is_in s p.0 ≡ true) (λ (p : Pair). below s.high p.0 ≡ true)
    (λ p. and_right (from_on (Some s.low) p.0) (below s.high p.0)) m (all_in m s keep)

-- ---- the shard at a place

pub keeps_yes : (m : List Pair) (splits : List (List ℕ)) (i : ℕ) (low : List ℕ)
    (high : Option (List ℕ)) → low ≡ low_at splits i → high ≡ slice_get splits i
    → AllFromOn low m → AllBelowBound high m → part_of m (shard_at splits i) ≡ m
keeps_yes m splits i low high low_is high_is from to =
    keeps_both m (shard_at splits i)
    (subst (λ (b : List ℕ). AllFromOn b m) low_is from)
    (subst (λ (b : Option (List ℕ)). AllBelowBound b m) high_is to)

pub keeps_not_low : (m : List Pair) (splits : List (List ℕ)) (i : ℕ) (low : List ℕ)
    → low ≡ low_at splits i → (AllFromOn low m → ⊥) → part_of m (shard_at splits i) ≡ m → ⊥
keeps_not_low m splits i low low_is stray keep =
    stray (subst (λ (b : List ℕ). AllFromOn b m) (sym low_is)
    (keeps_low m (shard_at splits i) keep))

pub keeps_not_high : (m : List Pair) (splits : List (List ℕ)) (i : ℕ) (high : Option (List ℕ))
    → high ≡ slice_get splits i → (AllBelowBound high m → ⊥) → part_of m (shard_at splits i) ≡ m
    → ⊥
keeps_not_high m splits i high high_is stray keep =
    stray (subst (λ (b : Option (List ℕ)). AllBelowBound b m) (sym high_is)
    (keeps_high m (shard_at splits i) keep))
